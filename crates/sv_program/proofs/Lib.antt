pub mod Trees
pub mod Growing
mod Arguments
pub mod Faults
mod FileLines
mod FirstRead
mod KeyLaws
mod Samples
mod Lines
pub mod PrintedRun
mod Readings
mod UncoveredRun
mod Steps
