pub mod Places
pub mod Moves
pub mod Passing
pub mod Rows
pub mod Turns
pub mod Undoing
