pub mod StoreState
pub mod Drafting
pub mod Growing
pub mod Reading
pub mod Pieces
pub mod Writing
pub mod Shrinking
pub mod Making
pub mod Accepting
pub mod Keeping
pub mod Outcomes
pub mod Measuring
pub mod Recounting
pub mod Seen
pub use Rattle.lfs_cleaner.specs.log as log
pub use Rattle.lfs_cleaner.specs as cleaner
pub use Rattle.lfs_cleaner.specs.log.memory
pub use Rattle.lfs_cleaner.specs.log.segments
