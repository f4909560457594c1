pub mod Floats
pub mod Fields
pub mod Bytes
pub mod Rows
