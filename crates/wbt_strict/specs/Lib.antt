pub mod Bound
pub mod Claims
pub mod Decision
pub mod Deciding
pub mod Example
pub mod Laws
pub mod Position
pub mod Rule
