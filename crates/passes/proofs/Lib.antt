pub mod Reach
pub mod Pass
pub mod Flat
pub mod Rows
