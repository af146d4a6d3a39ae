pub mod Wanted
pub mod Chosen
pub mod Columns
