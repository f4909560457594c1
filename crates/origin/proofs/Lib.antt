pub mod Ring
pub mod Stages
pub mod Fronts
pub mod Told
