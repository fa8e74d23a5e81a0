pub mod Able
pub mod Clock
pub mod Laws
pub mod Lines
pub mod Rotation
pub mod Schedules
pub mod Words
