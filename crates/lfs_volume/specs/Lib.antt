pub mod Finding
pub mod FindingLaws
pub mod Found
pub mod Lawful
pub mod Standing
