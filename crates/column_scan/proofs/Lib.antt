pub mod ColumnLaws
pub mod HintLaws
pub mod PickLaws
pub mod Latest
mod MemberLists
mod Stripes
mod Tests
mod Starts
mod StripeParts
mod TextLaws
mod TextSteps
mod Parted
