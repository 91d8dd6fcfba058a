pub mod Log
pub mod Disks
pub mod Flush
pub mod DiskSteps
pub mod Crash
pub mod Numbers
pub mod Turns
