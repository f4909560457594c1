pub mod Sound
pub mod Answers
pub mod Sums
pub mod Runs
pub mod Cases
pub mod Closing
pub mod Certain
