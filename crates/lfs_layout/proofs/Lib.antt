pub mod Bytes
pub mod Lanes
pub mod Splices
pub mod Unwritten
