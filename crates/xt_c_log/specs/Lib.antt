pub mod Owning
pub mod Holding
pub mod Texts
pub mod Logs
pub mod Told
pub mod Found
pub mod Heading
