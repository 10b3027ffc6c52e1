pub mod Bytes
pub mod LineEnd
pub mod Ending
pub mod Strict
pub mod Running
pub mod Session
pub mod OwnUnits
pub mod Unused
pub mod Seen
pub mod Noted
pub mod Heard
pub mod HeardBy
pub mod Recorded
pub mod Saved
pub mod Series
pub mod SeriesNoted
pub use Rattle.lfs_fs.specs as fs
