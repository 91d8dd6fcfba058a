mod RefusalLemmas
pub mod VolumeLemmas
