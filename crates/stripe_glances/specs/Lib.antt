pub mod Glances
pub mod Leaps
