pub mod Running
pub mod Keeping
pub mod Leaving
pub mod Ending
pub mod Worked
