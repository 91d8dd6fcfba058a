pub mod ChangeLemmas
pub mod ElementLemmas
pub mod HomeLemmas
mod LooseSteps
pub mod MappedLemmas
mod SealLemmas
pub mod WorkedLemmas
