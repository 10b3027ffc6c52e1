pub mod AtPlaces
pub mod Blocks
pub mod Met
pub mod Readings
pub mod Slots
pub mod Telling
