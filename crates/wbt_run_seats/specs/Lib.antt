pub mod Parts
pub mod Together
pub mod Apart
pub mod Opened
pub mod Gathered
pub mod Rooms
pub mod Left
