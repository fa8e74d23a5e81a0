pub mod FirstWrites
