pub mod Fits
pub mod Reading
