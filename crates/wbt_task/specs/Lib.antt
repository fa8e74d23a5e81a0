pub mod Allowance
pub mod History
pub mod Counts
pub mod Laws
