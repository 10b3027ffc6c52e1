pub mod Found
pub mod Pointed
