pub mod First
pub mod Posting
