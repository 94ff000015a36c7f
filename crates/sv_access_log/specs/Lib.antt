pub mod Combined
pub mod Dates
pub mod Escaping
pub mod Lines
pub mod LineLaws
pub mod Answered
pub mod Writing
pub mod Json
