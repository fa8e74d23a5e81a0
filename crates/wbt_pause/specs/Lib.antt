pub mod Pauses
pub mod Reads
pub mod Decision
pub mod Claims
pub mod Laws
