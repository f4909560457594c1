pub mod Rate
pub mod Samples
pub mod Bytes
