-- How a teller tells a run.
pub mod Few
pub mod Laws
pub mod Lists
pub mod Spans
pub mod Cutting
pub mod Keeping
pub mod Texts
pub mod Steps
pub mod Turns
