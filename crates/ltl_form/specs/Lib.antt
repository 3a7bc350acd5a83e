pub mod Nodes
pub mod Rows
pub mod Tables
pub mod Normal
pub mod Numbered
pub mod Sizes
pub mod Drafts
