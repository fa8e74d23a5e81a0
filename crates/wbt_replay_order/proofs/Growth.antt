-- The state after each move: what the run's lists have more, and what stays.
pub mod Runs
pub mod Quiet
pub mod Calm
pub mod Growing
pub mod Grown
pub mod Most
pub mod Afresh
pub mod Advancing
