pub mod Rest
pub mod Case
pub mod Opening
pub mod Codes
pub mod Room
pub mod Rows
pub mod Whole
