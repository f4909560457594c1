pub mod OriginRuns
pub mod OriginSame
