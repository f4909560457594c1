pub mod Opens
pub mod Frame
pub mod First
pub mod Stays
