pub mod Floats
pub mod Pairs
pub mod PlainSeries
