pub mod Given
pub mod Runs
pub mod Tells
pub mod Tried
mod Made
mod Mounted
mod Available
mod Numbers
mod CallsInARow
mod Standing
pub mod Sessions
