pub mod Marks
pub mod LeftOut
pub mod Tokens
pub mod Scans
pub mod Numbers
pub mod LongestSymbol
