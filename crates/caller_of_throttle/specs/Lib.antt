pub mod Machine
pub mod Work
