mod LineLemmas
mod LocatedLemmas
mod HeldLemmas
mod NumberLemmas
mod RoleLemmas
pub mod Steps
