-- The moves of turns leave the clock, the order lines and the rotation alone.
pub mod Items
pub mod Turns
pub mod Actors
