pub mod Reading
pub mod Unique
pub mod Runs
pub mod OpenRuns
pub mod Answers
