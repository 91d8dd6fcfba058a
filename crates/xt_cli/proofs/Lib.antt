mod LookLemmas
pub mod ServeLemmas
