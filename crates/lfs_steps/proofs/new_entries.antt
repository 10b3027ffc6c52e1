pub mod Maps
pub mod RuleSteps
pub mod Steps
pub mod Trees
