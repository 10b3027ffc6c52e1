pub mod Copying
pub mod Fitting
pub mod Looking
pub mod Paths
