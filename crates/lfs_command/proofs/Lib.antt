pub mod AmountWords
pub mod Told
