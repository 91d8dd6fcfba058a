pub mod ChangeMarks
pub mod LegItems
