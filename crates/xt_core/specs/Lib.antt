pub mod Turns
pub mod Cells
pub mod Host
pub mod Runs
pub mod InPlace
