-- The exact counts of domains are those that the steps tell.
pub mod Quiet
pub mod Plain
pub mod Booked
pub mod Looks
pub mod Writes
pub mod Walk
pub mod Exact
