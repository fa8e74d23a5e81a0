pub mod StrictLines
pub mod Ordering
pub mod Run
