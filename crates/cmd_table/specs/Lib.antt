pub mod Answers
pub mod Distinct
pub mod Fault
pub mod Fitting
pub mod Options
pub mod Steps
pub mod Words
