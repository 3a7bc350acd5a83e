pub mod Watched
pub mod Threads
