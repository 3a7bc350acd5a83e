pub mod Performing
pub mod Combining
pub mod Rowing
pub mod Keeping
