pub mod Series
pub mod Grouping
