pub mod Splits
pub mod InTrees
pub mod Sights
pub mod LinkTexts
pub mod Uppers
pub mod Chains
pub mod Passes
pub mod TextWalks
pub mod PathWalks
pub mod Places
pub mod TreeLaws
pub mod Texts
pub mod LastPieces
pub use Rattle.lfs_dirs.proofs as of_dirs
