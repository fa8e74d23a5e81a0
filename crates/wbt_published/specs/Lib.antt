pub mod Known
pub mod Publishing
pub mod Passes
pub mod Laws
