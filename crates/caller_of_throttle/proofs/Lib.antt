pub mod Bounding
pub mod Machines
pub mod Parting
mod Summing
mod Working
