pub mod Bandwidth
pub mod RateLimit
pub mod Estimate
pub mod Samples
pub mod Laws
