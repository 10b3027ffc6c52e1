pub mod Keeping
pub mod Slots
pub mod Standing
pub mod Staying
pub mod VolumeStates
