pub mod LogLemmas
pub mod ModelLemmas
pub mod TraceLemmas
pub mod Guarding
