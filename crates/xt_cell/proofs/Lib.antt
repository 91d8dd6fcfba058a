mod AskingLemmas
mod BookLemmas
mod ServedLemmas
mod FactLemmas
mod CallLemmas
mod MountLemmas
mod RunLemmas
mod ToldLemmas
