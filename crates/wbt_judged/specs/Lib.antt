pub mod Lines
pub mod Found
pub mod Strict
pub mod Ageing
pub mod Changed
pub mod Judged
