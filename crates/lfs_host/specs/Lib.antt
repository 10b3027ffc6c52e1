pub mod Refusals
pub mod Sizes
