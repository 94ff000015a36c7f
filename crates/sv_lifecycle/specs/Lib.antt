pub mod Begins
pub mod Calls
pub mod Fit
pub mod Laws
pub mod Order
pub mod Plan
pub mod Standing
pub mod Starting
