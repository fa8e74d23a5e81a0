pub mod Cut
pub mod Numbers
pub mod Reading
pub mod Verdicts
