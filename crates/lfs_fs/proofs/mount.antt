pub mod Available
pub mod Ends
pub mod State
