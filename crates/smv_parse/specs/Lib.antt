pub mod FirstForm
pub mod TextReading
pub mod Halting
