pub mod Graph
pub mod Queues
pub mod Arrows
pub mod Distances
pub mod Choices
