pub mod Ends
pub mod Names
pub mod Waiting
pub mod Ended
