pub mod GroupFlags
pub mod FormulaLevels
pub mod Flags
