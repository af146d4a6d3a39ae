pub mod Answered
pub mod Apart
pub mod LooseFiles
pub mod LeftFiles
mod ReclaimImages
pub mod LogSteps
pub mod LogLaws
pub mod ReadBlocks
pub mod PinNumbers
