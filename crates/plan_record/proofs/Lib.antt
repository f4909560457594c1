pub mod Numbers
pub mod Exits
pub mod Laws
pub mod Named
