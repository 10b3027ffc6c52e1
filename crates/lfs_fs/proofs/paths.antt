pub mod Ends
pub mod Later
pub mod Looks
pub mod Places
pub mod Steps
pub mod Walks
