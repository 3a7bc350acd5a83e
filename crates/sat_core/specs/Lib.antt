pub mod Contents
pub mod Assignment
pub mod Gained
pub mod Verdicts
pub mod Gains
pub mod Search
pub mod Attached
