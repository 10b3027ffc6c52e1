pub mod Steps
pub mod Entries
pub mod Bits
pub mod Registers
pub mod Bursts
pub mod Behind
