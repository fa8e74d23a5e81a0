pub mod Handing
pub mod Pages
pub mod Sums
pub mod Written
