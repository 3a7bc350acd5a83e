pub mod Rowwise
pub mod Truth
pub mod Normals
pub mod Steps
pub mod Drafting
pub mod Atoms
