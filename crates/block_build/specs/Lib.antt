pub mod Drafts
pub mod Built
pub mod Merging
pub mod Settling
pub mod Builders
pub mod Places
