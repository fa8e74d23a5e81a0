-- What the ordered run keeps from move to move. Its claims are proved by it; no reader need believe it.
pub mod Ending
pub mod Facts
pub mod Following
pub mod Further
pub mod Horizon
pub mod InRange
pub mod Naming
pub mod Opens
pub mod Ranges
pub mod Round
pub mod Seeks
pub mod Sound
pub mod Strict
pub mod Turns
pub mod Waiting
