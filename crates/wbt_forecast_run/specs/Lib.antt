pub mod Run
pub mod Claims
