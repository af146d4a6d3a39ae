pub mod Calls
pub mod EventRuns
pub mod Taken
pub mod Walked
pub mod CoreRuns
pub mod Answers
pub mod OwnFiles
