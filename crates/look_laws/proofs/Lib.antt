pub mod Calls
pub mod Keeping
pub mod OfCores
pub mod Pieces
pub mod JobCalls
pub mod Events
pub mod OfRuns
