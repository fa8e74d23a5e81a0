pub mod Fields
pub mod Rows
pub mod RowOf
pub mod Rebuilding
pub mod Reading
pub mod FirstBad
