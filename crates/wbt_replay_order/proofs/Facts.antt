-- What a lawful trace says, by number; and who is there.
pub mod Actors
pub mod Ages
pub mod Facts
pub mod Inodes
pub mod Jobs
pub mod Lists
pub mod Over
pub mod Pairs
pub mod Settings
pub mod Tasks
pub mod Paces
pub mod Parts
pub mod Scans
pub mod Things
