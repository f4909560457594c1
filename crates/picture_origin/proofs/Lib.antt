pub mod Starting
pub mod Judged
pub mod Numbers
pub mod Step
pub mod One
pub mod Advance
pub mod Fronted
