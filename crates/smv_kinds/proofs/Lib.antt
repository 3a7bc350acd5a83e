pub mod Lines
pub mod Meets
pub mod Widths
