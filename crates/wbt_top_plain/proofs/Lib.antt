mod Cutting
pub mod Each
mod Inputs
mod Judged
mod Meaning
mod Plain
mod Told
