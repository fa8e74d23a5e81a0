pub mod Side
pub mod Turn
pub mod Gate
pub mod Kinds
pub mod Ready
