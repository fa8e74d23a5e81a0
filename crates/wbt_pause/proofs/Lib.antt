pub mod Going
pub mod Ways
pub mod Finishing
pub mod Deciding
pub mod Counting
pub mod Small
pub mod Polling
pub mod Cutting
