pub mod Settling
pub mod Refusing
