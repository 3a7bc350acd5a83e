pub mod Agreement
pub mod Settling
pub mod Excluding
pub mod PartFaults
