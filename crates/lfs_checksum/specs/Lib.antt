pub mod Division
pub mod Examples
pub mod Bursts
