pub mod Passing
pub mod Making
pub use Rattle.lfs_log.specs as log
