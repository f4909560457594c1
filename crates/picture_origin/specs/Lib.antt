pub mod Numbers
pub mod Step
pub mod Inner
