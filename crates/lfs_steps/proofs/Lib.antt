mod Prelude
pub mod calls
pub mod link
pub mod list
pub mod new_entries
pub mod old_entries
pub mod open_files
pub mod paths
pub mod rename
pub mod rmdir
pub mod unlink
pub mod volume
pub mod widen
pub mod write
