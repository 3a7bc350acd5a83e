pub mod Numbers
pub mod Products
pub mod Shifts
pub mod Signs
pub mod Circuits
pub mod Quotients
