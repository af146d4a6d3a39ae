pub mod Reopened
pub mod Through
