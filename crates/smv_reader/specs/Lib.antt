pub mod Halts
pub mod Turns
pub mod Views
pub mod Steps
