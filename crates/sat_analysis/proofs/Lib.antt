pub mod Marks
pub mod Walks
pub mod Asserting
pub mod Visits
pub mod Starts
pub mod Awaited
