pub mod Plan
pub mod Judging
pub mod Reading
