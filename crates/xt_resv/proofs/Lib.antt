pub mod LandedLemmas
pub mod LegLemmas
pub mod MountLemmas
