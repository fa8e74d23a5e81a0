mod Bulks
pub mod InOrder
