mod Asking
pub mod Made
mod Found
pub mod Lines
pub mod Since
mod Stepping
mod Beginning
mod Turning
mod Opened
pub mod Ready
