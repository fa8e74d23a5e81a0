-- The counts of a forecast are within their bounds.
pub mod Peaks
pub mod Setting
pub mod Rows
