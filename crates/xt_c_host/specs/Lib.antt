pub mod Owning
pub mod Holding
pub mod Told
pub mod Stepping
