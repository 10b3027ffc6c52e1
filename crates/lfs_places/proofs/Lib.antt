pub mod DeviceUnits
pub mod OldPlaces
pub mod PlacedStates
pub mod Placing
