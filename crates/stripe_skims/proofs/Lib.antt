mod CellLaws
pub mod ColumnLaws
pub mod ItemLaws
mod OrderLaws
pub mod SkipLaws
pub mod StripeLaws
