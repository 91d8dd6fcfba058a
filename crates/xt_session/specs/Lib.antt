pub mod Cut
pub mod Intake
pub mod Session
pub mod Turns
