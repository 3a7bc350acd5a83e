pub mod Filling
pub mod Groups
pub mod Settling
pub mod Splitting
pub mod Starts
pub mod Unfolding
