pub mod Counting
pub mod Faults
pub mod Memory
pub mod Moments
pub mod Pages
pub mod Told
pub mod Gates
