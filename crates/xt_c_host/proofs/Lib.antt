pub mod TextLemmas
mod LooseSteps
