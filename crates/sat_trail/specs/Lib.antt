pub mod Assignment
pub mod Trail
pub mod Units
