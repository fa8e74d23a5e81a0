pub mod Worked
pub mod Rising
