pub mod Rests
pub mod Asked
pub mod Going
pub mod OriginRuns
pub mod OriginUnique
