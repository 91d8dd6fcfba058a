mod ServedLemmas
pub mod WorkLemmas
mod WaitLemmas
pub mod CrossLemmas
