pub mod Ranks
pub mod Firsts
pub mod Between
