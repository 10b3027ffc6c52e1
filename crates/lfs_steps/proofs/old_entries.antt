pub mod Dropping
pub mod Removal
pub mod Steps
