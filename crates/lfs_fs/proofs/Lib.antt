mod Prelude
mod Exits
pub mod Bearing
pub mod FoundVolumes
mod calls
mod volume
mod paths
mod new_entries
mod old_entries
mod unlink
mod rmdir
mod link
mod rename
mod open_files
mod write
mod read
mod list
mod save
mod clean
mod mount
mod widen
mod scripts
pub mod ScriptRuns
pub mod CallRuns
pub mod Sessions
pub use Rattle.lfs_store.proofs.of_log.WholeUnits as WholeUnits
