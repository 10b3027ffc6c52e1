pub mod Drafts
pub mod Outcomes
pub mod Paths
pub mod Refusals
