pub mod Answer
pub mod Deciding
pub mod Engine
pub mod Holding
pub mod Status
pub mod Uncovered
