pub mod Fresh
pub mod Contents
pub mod Settling
pub mod Busy
pub mod Idle
pub mod Shares
pub mod Kept
