pub mod Calls
pub mod LineSteps
pub mod Lines
pub mod Memory
pub mod Standard
