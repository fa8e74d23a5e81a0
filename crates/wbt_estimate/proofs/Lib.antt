pub mod Ranges
pub mod Folding
pub mod Taking
pub mod Between
