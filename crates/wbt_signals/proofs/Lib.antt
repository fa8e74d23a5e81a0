pub mod Sums
pub mod Histories
pub mod Telling
pub mod Keeping
