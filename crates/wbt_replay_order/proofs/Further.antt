-- What stays where a state is forgotten but for what its next moves need, and where it may make further steps.
pub mod Forgotten
pub mod Extended
