-- What is claimed of the ordered run.
pub mod Ages
pub mod Bound
pub mod Cleaned
pub mod Complete
pub mod Decided
pub mod Ending
pub mod Left
pub mod Path
pub mod Setting
pub mod Strict
pub mod Unfailing
pub mod Whole
