mod ChosenLaws
pub mod IdLaws
mod RowLaws
