mod Avails
mod Contexts
mod Deciding
mod Devices
mod Flushers
mod Keeping
mod Kept
mod KindLaws
mod LineLaws
mod Rereading
mod RoundTrips
mod Small
mod Tasks
pub mod Tests
mod Texts
