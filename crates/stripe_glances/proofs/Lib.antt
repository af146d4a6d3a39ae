mod FieldLaws
mod LandLaws
mod RowLaws
mod StripeLaws
