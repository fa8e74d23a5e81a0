pub mod Firsts
pub mod Sharing
pub mod Parts
pub mod Quotas
pub mod Openings
pub mod Places
pub mod Paces
