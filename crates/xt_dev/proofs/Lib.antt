pub mod Answered
pub mod Doubted
pub mod Sealed
