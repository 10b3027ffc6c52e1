pub mod Drops
pub mod Explained
pub mod Rule
