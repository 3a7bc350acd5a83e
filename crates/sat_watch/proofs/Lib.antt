pub mod Chains
pub mod Records
pub mod Moves
pub mod Adding
pub mod Leaving
