pub mod AnswerLemmas
pub mod ChainLemmas
pub mod CutLemmas
pub mod IntakeLemmas
pub mod Loops
pub mod SessionMaps
pub mod StreamLemmas
