pub mod Alike
pub mod Stage
pub mod Adjoint
pub mod Same
pub mod Alternating
pub mod Twice
pub mod Wrong
