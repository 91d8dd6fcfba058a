pub mod Devices
pub mod Flushes
pub mod Tails
pub mod Doubting
pub mod Failed
pub mod Segments
pub mod TwoFiles
pub mod SealedLogs
