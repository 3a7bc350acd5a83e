pub mod Lists
pub mod Literals
pub mod Tables
pub mod Trails
pub mod Logs
pub mod Levels
pub mod Growth
