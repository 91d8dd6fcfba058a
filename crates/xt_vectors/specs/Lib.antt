pub mod Edits
pub mod Vectors
