pub mod Judging
pub mod Firsts
pub mod Kept
pub mod Rules
pub mod Uses
pub mod Formulas
pub mod Found
