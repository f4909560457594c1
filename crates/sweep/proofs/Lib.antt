pub mod Rows
pub mod Levels
pub mod Sweep
pub mod Back
