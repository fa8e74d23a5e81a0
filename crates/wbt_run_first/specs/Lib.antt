pub mod Lent
pub mod Back
pub mod Seated
pub mod Voiced
