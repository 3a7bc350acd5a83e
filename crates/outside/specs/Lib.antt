pub mod Number
pub mod Told
pub mod Calls
pub mod Lines
pub mod Disk
pub mod Memory
