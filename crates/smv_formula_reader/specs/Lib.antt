pub mod Flags
pub mod FormulaViews
pub mod FormulaClimbing
