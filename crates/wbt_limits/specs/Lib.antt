pub mod Thresholds
pub mod Limits
pub mod Cgroup
pub mod Context
pub mod Flusher
pub mod Words
pub mod Laws
