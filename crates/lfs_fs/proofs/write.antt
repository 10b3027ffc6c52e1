pub mod Drafts
pub mod Ends
pub mod Exits
