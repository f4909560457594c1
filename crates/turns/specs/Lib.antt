pub mod Inner
pub mod Cut
