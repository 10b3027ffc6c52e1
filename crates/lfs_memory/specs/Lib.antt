pub mod Numbers
pub mod Memory
pub mod Present
pub mod Pointers
pub mod Lifting
pub mod Moving
pub mod Changing
pub mod Counting
pub mod Removing
pub mod Preparing
pub mod Applying
pub mod Cutting
pub mod Hiding
pub mod Batch
pub mod Staging
pub use Rattle.lfs_files.specs as files
pub use Rattle.lfs_inodes.specs as inodes
pub use Rattle.lfs_segments.specs as segments
