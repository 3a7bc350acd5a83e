pub mod Climbing
pub mod Waiting
