pub mod SettleLemmas
pub mod FreshLemmas
pub mod BusyLemmas
pub mod EntryLemmas
pub mod ContentLemmas
pub mod IdleLemmas
pub mod TableLemmas
pub mod BlockLemmas
mod KeptLemmas
mod WordLemmas
