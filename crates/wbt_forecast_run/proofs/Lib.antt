pub mod Runs
pub mod Counts
pub mod Replayed
pub mod Bounds
