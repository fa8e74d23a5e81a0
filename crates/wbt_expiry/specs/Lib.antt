pub mod Lists
pub mod Paths
pub mod Slots
pub mod Marks
pub mod Waiting
pub mod Filed
pub mod Kept
