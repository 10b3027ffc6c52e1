pub mod Settling
pub mod Publishing
pub mod Saving
pub mod Opening
pub mod LogState
pub mod Held
pub mod Mounting
pub mod Groups
pub mod Brought
pub mod Moving
pub mod Relocating
pub mod Cleaning
pub mod Passing
pub mod Collecting
pub mod Telling
pub mod Placing
pub mod Early
pub mod Thresholds
pub mod Keeping
pub mod Versions
pub use Rattle.lfs_memory.specs as memory
pub use Rattle.lfs_memory.specs.files
pub use Rattle.lfs_memory.specs.inodes
pub use Rattle.lfs_memory.specs.segments
pub use Rattle.lfs_verify.specs as verify
