-- What a move of the ordered run is.
pub mod Counters
pub mod Check
pub mod Cpu
pub mod Estimates
pub mod Flight
pub mod Forget
pub mod Idle
pub mod Perform
pub mod Scan
pub mod State
pub mod Timer
pub mod Weigh
pub mod Writer
