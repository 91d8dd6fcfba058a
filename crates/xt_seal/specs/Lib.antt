pub mod Sums
pub mod Seal
pub mod Headers
pub mod Reading
