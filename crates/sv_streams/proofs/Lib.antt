pub mod CallJoins
mod CallLemmas
mod LineLemmas
mod ProgressLemmas
