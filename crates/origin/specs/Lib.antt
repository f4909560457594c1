pub mod Kept
pub mod Inner
