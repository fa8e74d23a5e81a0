pub mod Numbered
pub mod Counting
pub mod Smalls
pub mod Gaining
pub mod Adding
pub mod Going
pub mod Looping
pub mod Paging
