-- Lists of which one place is changed, sums and counts over them, and lists of what is still to do.
pub mod Places
pub mod Numbered
pub mod Todos
