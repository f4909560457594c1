pub mod Lengths
pub mod Outcome
pub mod Unique
pub mod Six
