pub mod SealLemmas
pub mod HeaderLemmas
