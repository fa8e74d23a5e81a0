pub mod Follow
pub mod Following
