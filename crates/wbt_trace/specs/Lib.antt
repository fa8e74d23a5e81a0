pub mod Bulk
pub mod Lawful
pub mod Sofar
pub mod WriterList
