pub mod Encoding
pub mod Definitional
pub mod Contents
pub mod Answers
