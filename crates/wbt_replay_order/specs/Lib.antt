pub mod Claims
pub mod Definition
pub mod Kept
