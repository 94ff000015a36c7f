pub mod FilterChain
pub mod Kept
pub mod Laws
