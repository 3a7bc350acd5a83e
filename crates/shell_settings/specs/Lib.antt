pub mod Settings
pub mod Refused
