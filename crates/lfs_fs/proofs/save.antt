pub mod Declined
pub mod Ends
pub mod Room
pub mod Saved
