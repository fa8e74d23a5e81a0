mod Loading
mod Timing
