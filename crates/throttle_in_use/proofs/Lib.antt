mod Steps
mod Backs
