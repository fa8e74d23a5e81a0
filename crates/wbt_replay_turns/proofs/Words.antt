-- The steps of each CPU are those of turns.
pub mod Language
pub mod Fits
pub mod Todos
pub mod Items
pub mod Silent
pub mod Begins
pub mod Advancing
pub mod Moves
pub mod Timer
pub mod Whole
