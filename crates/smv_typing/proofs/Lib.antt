pub mod Atoms
pub mod ByRules
pub mod Firsts
pub mod Kept
pub mod Lists
pub mod Parts
