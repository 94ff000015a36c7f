pub mod Boxing
pub mod Growing
pub mod Journalling
pub mod Moving
pub mod Running
