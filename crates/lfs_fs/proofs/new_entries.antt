pub mod Drafts
pub mod Ends
pub mod Explained
pub mod Outcomes
pub mod Rule
