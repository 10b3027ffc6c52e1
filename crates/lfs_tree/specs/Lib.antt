pub mod Reading
pub mod Naming
pub mod Objects
pub mod Texts
pub mod Reaching
pub mod Linking
pub mod Checking
