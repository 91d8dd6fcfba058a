pub mod Window
pub mod Start
pub mod Rest
pub mod Ways
