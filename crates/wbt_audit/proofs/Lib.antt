pub mod Resting
pub mod Righting
