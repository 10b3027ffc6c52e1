pub mod Lawful
pub mod PlaceLaws
pub mod Placed
pub mod Places
