-- Why the order of a run is what its definition says.
pub mod Beginning
pub mod Firsts
pub mod Fitting
pub mod Keeping
pub mod Lines
pub mod Opened
pub mod Queues
pub mod Seeking
pub mod Passing
pub mod PopFits
pub mod MoveFits
pub mod StepFits
pub mod Stopping
pub mod TimerFits
pub mod BeginFits
