pub mod HeaderSteps
pub mod HeaderFields
pub mod HeaderLaws
pub mod BlockLaws
