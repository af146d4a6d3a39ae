pub mod Tables
pub mod ColumnEncodings
pub mod ColumnReadings
pub mod ColumnLaws
pub mod Outcomes
