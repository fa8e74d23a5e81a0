pub mod Telling
pub mod Bases
pub mod Moments
pub mod Turning
