pub mod Standings
pub mod Assigning
pub mod Faults
pub mod Excluded
