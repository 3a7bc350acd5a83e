pub mod Pairs
pub mod Rules
pub mod Walks
pub mod Quiet
pub mod Ready
