pub mod Word
pub mod Trees
pub mod Models
pub mod Legal
