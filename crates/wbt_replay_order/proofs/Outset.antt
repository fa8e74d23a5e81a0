-- The opening of a lawful trace's run is sound.
pub mod Cpus
pub mod Numbered
pub mod Sound
pub mod Tasks
pub mod Wheels
