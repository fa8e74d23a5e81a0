pub mod Common
pub mod Joining
pub mod Laid
mod Undoing
pub mod Lengths
pub mod Seating
