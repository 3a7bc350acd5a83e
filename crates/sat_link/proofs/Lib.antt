pub mod Defining
pub mod Adding
pub mod Valued
pub mod Keeping
pub mod Growing
pub mod Searching
pub mod Gaining
pub mod Answering
