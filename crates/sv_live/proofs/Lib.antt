pub mod ByPlace
pub mod Ending
pub mod Moving
pub mod Places
pub mod SessionEnds
