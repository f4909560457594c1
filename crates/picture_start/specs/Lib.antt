pub mod Start
pub mod Stop
pub mod Inner
