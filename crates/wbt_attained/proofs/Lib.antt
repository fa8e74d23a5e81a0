pub mod Setting
pub mod At
pub mod Moves
pub mod Loops
pub mod Whole
