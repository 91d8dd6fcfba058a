pub mod NameLemmas
pub mod RuleLemmas
pub mod BoardLemmas
pub mod LawLemmas
