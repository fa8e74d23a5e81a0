pub mod Giving
pub mod Lists
