pub mod Polynom
pub mod Position
pub mod Laws
