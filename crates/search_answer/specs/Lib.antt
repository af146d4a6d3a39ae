pub mod Answers
pub mod Best
pub mod InRange
pub mod Keeping
pub mod Parts
pub mod Threads
pub mod Walking
