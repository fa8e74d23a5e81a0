-- Every page of every write is told, or is still to be written.
pub mod Dirtying
pub mod End
pub mod Same
pub mod Whole
