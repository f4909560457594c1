pub mod Unique
pub mod Agree
