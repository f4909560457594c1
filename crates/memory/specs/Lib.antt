pub mod Memory
pub mod Inner
pub mod Lent
