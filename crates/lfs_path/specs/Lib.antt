pub mod Lasts
pub mod Laws
pub mod Pieces
pub mod Trees
pub mod Telling
pub mod Seeing
pub mod Following
pub mod Passing
pub mod Reaching
pub use Rattle.lfs_dirs.specs as dirs
