-- What the ordered run of a trace is.
pub mod Opening
pub mod Order
pub mod Run
pub mod Strict
pub mod Tasks
