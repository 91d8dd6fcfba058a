pub mod Ledgers
pub mod Mounts
