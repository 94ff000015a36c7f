mod Cut
mod EscapeLemmas
pub mod FieldLemmas
mod Lawful
mod LineLemmas
mod NameLemmas
mod Part
mod PlayLemmas
mod ProgressLemmas
mod ReadBackLemmas
mod RunJoins
mod WholeLemmas
