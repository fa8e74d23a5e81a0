pub mod History
pub mod Signals
