pub mod Apply
pub mod Changes
pub mod Lists
pub mod Order
pub mod Parts
pub mod Whole
