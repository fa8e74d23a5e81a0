-- The laws of the run that a forecast tells.
pub mod Letting
pub mod Cut
pub mod Clock
pub mod Ends
pub mod Walking
pub mod Changing
pub mod Growing
pub mod Gaining
pub mod Few
