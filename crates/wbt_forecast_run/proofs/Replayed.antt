-- A run that isn't spent by as many steps as a replay may have is the one that a replay tells.
pub mod Most
pub mod Order
pub mod Alike
