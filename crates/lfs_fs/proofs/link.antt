pub mod Drafts
pub mod Outcomes
