pub mod Scanning
pub mod Values
pub mod LongestSymbols
