pub mod Amounts
pub mod Playing
pub mod Telling
