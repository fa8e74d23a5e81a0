-- What the journal of a run names is there.
pub mod Left
pub mod Logs
pub mod Changes
pub mod Items
pub mod Moves
pub mod Whole
