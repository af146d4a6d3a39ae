pub mod BytesLemmas
pub mod CallRuns
mod Counting
mod FilesLemmas
pub mod Moments
pub mod Passing
mod PicksLemmas
pub mod Runs
mod Steps
mod Torn
pub mod Untold
