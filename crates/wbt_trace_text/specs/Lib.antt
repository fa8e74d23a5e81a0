pub mod Accept
pub mod Lines
pub mod Reading
pub mod RoundTrip
pub mod Seen
pub mod Writing
