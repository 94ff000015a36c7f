mod CaseLemmas
mod HeldLemmas
mod IdLemmas
mod PassLemmas
mod SessionLemmas
mod NameLemmas
