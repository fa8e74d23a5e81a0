pub mod Acts
pub mod Newest
pub mod Places
pub mod Rows
pub mod Walking
pub mod Walks
