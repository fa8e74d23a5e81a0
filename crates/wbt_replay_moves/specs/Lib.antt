pub mod Definition
pub mod Kept
pub mod Pages
pub mod Seen
pub mod Steps
