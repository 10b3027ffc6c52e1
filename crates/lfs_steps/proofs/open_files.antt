pub mod CloseSteps
pub mod Steps
