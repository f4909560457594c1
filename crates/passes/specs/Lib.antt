pub mod Flat
pub mod Inner
pub mod Picks
