pub mod Phases
pub mod Step
pub mod Rows
pub mod Turn
pub mod Cut
