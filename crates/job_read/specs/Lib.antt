pub mod Layout
pub mod Job
pub mod Inner
