mod FirstMoments
pub mod FirstPlaces
mod FirstSectors
mod FirstSlots
mod FirstWrites
