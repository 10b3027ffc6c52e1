pub mod Pressing
pub use Rattle.lfs_log.proofs as of_log
pub mod CleanEnds
pub mod CleanBounds
pub mod Onces
pub mod Befores
