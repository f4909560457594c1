pub mod Numbers
pub mod Plan
pub mod Inner
