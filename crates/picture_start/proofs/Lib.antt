pub mod Starting
pub mod Stops
