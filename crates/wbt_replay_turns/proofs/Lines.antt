-- Order lines are obeyed.
pub mod Made
pub mod Steps
pub mod Moves
pub mod Left
pub mod Runs
