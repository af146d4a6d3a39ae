pub mod ColumnsOfRows
pub mod ContentLaws
pub mod StripeLaws
pub mod StripeSteps
pub mod NamedCells
pub mod KeptRows
pub mod ReadSteps
