pub mod Entering
pub mod Fresh
pub mod Saving
pub mod Verdicts
