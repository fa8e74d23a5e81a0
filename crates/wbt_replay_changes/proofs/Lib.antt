pub mod Agrees
pub mod Each
pub mod Facts
pub mod Keeping
pub mod Plain
