pub mod ItemLemmas
pub mod ChargeLemmas
pub mod CostLemmas
