-- What moves need and keep.
pub mod Fit
