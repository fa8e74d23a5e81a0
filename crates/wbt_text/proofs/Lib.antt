pub mod Cuts
pub mod Deciding
pub mod Decimals
pub mod Leading
pub mod Spaces
