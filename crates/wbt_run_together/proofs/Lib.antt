pub mod There
pub mod Parting
pub mod Worked
pub mod Stood
pub mod Served
pub mod Gathered
pub mod Leaving
pub mod Voicing
