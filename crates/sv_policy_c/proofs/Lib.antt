pub mod Values
pub mod Held
