pub mod Row
pub mod Picture
pub mod Dark
pub mod Worn
