pub mod Opening
pub mod Kit
