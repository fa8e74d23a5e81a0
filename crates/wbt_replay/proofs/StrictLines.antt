-- The lines of strict devices are those of the definition, and are within their bounds.
pub mod Tallies
pub mod Lines
