pub mod Forms
pub mod Branches
pub mod IsMark
pub mod Faults
pub mod Formulas
pub mod Explaining
pub mod Levels
