pub mod Faults
pub mod Front
pub mod Gives
pub mod Steps
pub mod Text
