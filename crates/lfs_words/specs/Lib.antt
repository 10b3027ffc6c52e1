pub mod Bytes
pub mod Words
pub mod Reading
pub mod Cuts
