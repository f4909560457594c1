pub mod Ran
pub mod Inner
