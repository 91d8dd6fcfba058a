pub mod OverLemmas
pub mod KeepLemmas
pub mod TieLemmas
