pub mod TwoWords
pub mod LineWords
pub mod Commands
