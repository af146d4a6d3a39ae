pub mod NumberLaws
pub mod Texts
pub mod FieldLaws
pub mod TextLaws
