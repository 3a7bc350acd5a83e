pub mod Inks
pub mod SpelledAgain
