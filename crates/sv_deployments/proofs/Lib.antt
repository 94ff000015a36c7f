pub mod DeployingSteps
pub mod Ending
pub mod ServerReadings
pub mod Checking
mod Fitting
mod Steps
pub mod TotalBytes
pub mod Finding
mod FolderReadings
mod InTurn
pub mod Leaving
