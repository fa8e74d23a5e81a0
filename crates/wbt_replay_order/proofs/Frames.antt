-- What a move of one CPU leaves alone of the others, and of what they share.
pub mod Others
pub mod Quiet
