pub mod Rounds
pub mod Tasks
pub mod Phases
pub mod Joining
