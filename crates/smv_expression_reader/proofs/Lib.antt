pub mod Climbing
pub mod Turning
pub mod Levels
