pub mod Growth
pub mod Pairs
pub mod Meaning
pub mod Joins
pub mod Evaluation
