pub mod Names
pub mod Queues
pub mod Passes
pub mod Words
pub mod Boards
pub mod Seats
pub mod Laws
