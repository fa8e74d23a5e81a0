-- The lines of strict devices are those of the definition, and are within their bounds.
pub mod Fitting
pub mod Growing
pub mod Within
