pub mod Claims
pub mod StrictLines
pub mod Lawful
pub mod Legally
