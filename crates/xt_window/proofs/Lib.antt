pub mod WindowLemmas
pub mod StartLemmas
pub mod RestLemmas
pub mod WayLemmas
