pub mod Sound
pub mod InRange
