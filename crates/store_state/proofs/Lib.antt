pub mod LearnLaws
pub mod HoldLaws
pub mod CallLaws
pub mod Choosing
pub mod Listings
mod Few
