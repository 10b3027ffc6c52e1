pub mod Fits
pub mod Maps
pub mod Steps
pub mod Views
