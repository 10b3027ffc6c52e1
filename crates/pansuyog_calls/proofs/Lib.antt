pub mod CallsInARow
pub mod Filled
pub mod Places
pub mod Sessions
pub mod Told
pub mod Made
