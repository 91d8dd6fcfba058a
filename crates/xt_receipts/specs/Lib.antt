pub mod Again
pub mod Calls
pub mod Closing
