mod Adding
mod HostBreaking
mod Contexts
mod EditedContexts
mod HostFeedings
mod Handling
mod HostHappening
mod Iterating
mod Places
mod HostTaking
mod Beside
pub mod Breaking
pub mod Callers
pub mod Constraints
mod Cuts
pub mod Effects
mod Feedings
mod Joining
mod Orders
pub mod Outcomes
pub mod Reactions
pub mod Refusals
mod SessionCalls
mod Stepping
pub mod Taking
pub mod Tracing
