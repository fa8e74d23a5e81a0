pub mod Rows
pub mod Draft
pub mod Accept
pub mod Law
pub mod Reading
pub mod Text
