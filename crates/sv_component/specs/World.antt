-- The components of a context with their journal.
use Rattle.std.specs.Prelude.{ℕ, List, [], unwrap_or, slice_get}
use Rattle.std.specs.Option.{option_map}
use Rattle.sv_component.specs.declared.components.Named.{Named}
use Rattle.sv_journal.specs.Journal.{JournalState}

pub record World (S F L : Type 0) : Type 0 where
  pub context : List ℕ
  pub servlets : List (Named S)
  pub filters : List (Named F)
  pub listeners : List L
  pub journal : JournalState

-- The name of the component at an index.
abbrev pub name_at : {C : Type 0} → List (Named C) → ℕ → List ℕ
name_at components place = unwrap_or (option_map (λ named. named.name) (slice_get components place)) []
