pub mod Beginning
pub mod Devices
pub mod Lending
pub mod Serving
pub mod Sources
pub mod Standing
