pub mod Ids
pub mod BuildLaws
pub mod ReachLaws
pub mod MemberLaws
pub mod RelationLaws
