pub mod TextLaws
pub mod TextVerdicts
pub mod Places
