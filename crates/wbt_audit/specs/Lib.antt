pub mod Audited
pub mod Righted
