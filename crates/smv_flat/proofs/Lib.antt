pub mod Spans
pub mod Loops
pub mod Held
pub mod Slots
pub mod Rows
pub mod Moments
pub mod SlotPaths
pub mod Programs
