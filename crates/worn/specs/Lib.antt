pub mod Worn
pub mod Runs
pub mod Table
pub mod Inner
