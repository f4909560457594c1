pub mod Numbers
pub mod Step
pub mod ReadOut
pub mod Inner
