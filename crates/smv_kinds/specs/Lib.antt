pub mod Intervals
pub mod Sorts
pub mod Results
pub mod Operators
pub mod Table
pub mod Nodes
pub mod Widths
