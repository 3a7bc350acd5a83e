pub mod Literal
pub mod Codes
pub mod Nodes
pub mod Valuation
pub mod Sharing
