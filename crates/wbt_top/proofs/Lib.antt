mod BulkRuns
mod Free
mod Running
pub mod Served
