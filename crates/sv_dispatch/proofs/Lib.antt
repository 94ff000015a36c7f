pub mod ContextDeeds
pub mod Deeds
pub mod DispatchDeeds
pub mod ExchangeDeeds
pub mod FilingDeeds
pub mod FilterDeeds
pub mod LeaveDeeds
pub mod LiveDeeds
mod Phrases
pub mod RunningDeeds
pub mod TellingDeeds
pub mod TurnDeeds
