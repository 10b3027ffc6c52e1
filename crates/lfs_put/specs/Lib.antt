pub mod Calls
pub mod Changing
pub mod Getting
pub mod Largest
pub mod Placing
pub mod Putting
