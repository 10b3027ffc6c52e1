pub mod ScriptBytes
pub mod HeardBytes
pub mod ScriptTurns
pub mod Writing
pub mod ScriptHeard
pub mod Glancing
pub mod Filling
pub mod Begun
pub mod Used
pub mod InTurn
pub mod InTurnNoted
mod OwnUnits
