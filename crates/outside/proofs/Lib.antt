pub mod ToldLemmas
pub mod WriteLemmas
pub mod MemoryLemmas
