pub mod Calling
pub mod Calls
pub mod SessionEnds
pub mod Standing
pub mod World
