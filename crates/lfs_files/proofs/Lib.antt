pub mod LooksCompose
pub mod FilesCompose
