pub mod PartLaws
pub mod PartSteps
pub mod Promised
pub mod KeyLemmas
