pub mod BreakLemmas
pub mod ReadingLoops
pub mod Again
pub mod Meant
pub mod Distinct
pub mod Results
pub mod Promised
pub mod KeyLemmas
