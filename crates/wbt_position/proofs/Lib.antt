pub mod LowestBit
pub mod Cubes
pub mod Quotients
pub mod Rising
pub mod Falling
pub mod Weighing
