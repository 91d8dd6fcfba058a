pub mod CrossLemmas
