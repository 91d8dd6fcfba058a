pub mod PlanLemmas
pub mod CleanLemmas
pub mod MountLemmas
pub mod WeightLemmas
pub mod NewLemmas
pub mod PassedLemmas
pub mod SieveLemmas
