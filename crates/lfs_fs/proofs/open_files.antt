pub mod ClosedMaps
pub mod Closes
pub mod FreedPlaces
pub mod Opens
pub mod TableEnds
pub mod Tables
