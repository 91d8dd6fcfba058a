pub mod Holding
pub mod HostCalls
pub mod HostSession
pub mod Names
pub mod Seats
