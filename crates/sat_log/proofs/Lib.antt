pub mod ListLemmas
pub mod LiteralLemmas
pub mod Implied
pub mod NeededFresh
pub mod FreshBound
pub mod MarkLemmas
pub mod Decided
pub mod LogLemmas
