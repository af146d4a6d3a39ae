pub mod Body
pub mod Commit
pub mod Fronts
pub mod Loading
pub mod ListText
pub mod Reading
pub mod Slots
