pub mod Causes
pub mod Told
pub mod Finishing
pub mod Holding
pub mod Pausing
pub mod Ending
pub mod Handed
