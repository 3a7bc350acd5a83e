pub mod Literals
pub mod Rowwise
