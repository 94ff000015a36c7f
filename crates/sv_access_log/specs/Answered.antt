-- The messages that the last event of a handler answered, and what a log shows of them.
use Rattle.std.specs.Prelude.{ℕ, ◌+◌, ◌-◌, List, [], ◌∷◌, ◌++◌, length, slice_get, Option, option_and_then, option_map}
use Rattle.sv_access_log.specs.Lines.{access_line}
use Rattle.sv_access_log.specs.declared.circumstances.Circumstances.{Circumstances}
use Rattle.sv_access_log.specs.declared.event_lines.Scene.{Scene}
use Rattle.sv_journal.specs.Entry.{entry_text}
use Rattle.sv_journal.specs.declared.entry.Entry.{Entry}
use Rattle.sv_run.specs.declared.access.Access.{Access}

-- The accesses of the last event, the names of the users of a context by their numbers, and the paths of the contexts. A
-- context is given by its place.
pub record Answered : Type 0 where
  pub accesses : List Access
  pub user_name : ℕ → ℕ → Option (List ℕ)
  pub context_path : ℕ → Option (List ℕ)

-- The name of the caller of an access, in the context that handled it.
abbrev pub user_of : Answered → Access → Option (List ℕ)
user_of answered access = option_and_then (λ place. option_and_then (λ number. answered.user_name place number) access.caller) access.context

abbrev pub context_of : Answered → Access → Option (List ℕ)
context_of answered access = option_and_then (λ place. answered.context_path place) access.context

-- How many entries of a journal are about these accesses.
abbrev pub entries_of : List Access → ℕ
entries_of [] = 0
entries_of (access ∷ later) = access.entries + entries_of later

-- The entry that says what became of the first of the last accesses of an event: the entries about them are the journal's last.
abbrev pub outcome_of : List Entry → List Access → Option Entry
outcome_of journal accesses = slice_get journal (length journal - entries_of accesses)

-- What the line of an access shows, with this outcome and so many microseconds.
abbrev pub shown_around : Answered → Scene → Access → Option (List ℕ) → ℕ → Circumstances
shown_around answered scene access its_outcome its_micros = record {
  date = scene.date;
  address = scene.address;
  user = user_of answered access;
  context = context_of answered access;
  outcome = its_outcome;
  micros = its_micros;
}

module _ (answered : Answered) (journal : List Entry) (scene : Scene) where
  -- The text of what became of the first of the last accesses.
  abbrev pub outcome_text : List Access → Option (List ℕ)
  outcome_text accesses = option_map entry_text (outcome_of journal accesses)

  -- The lines of the last accesses of an event, in order. The first of them took so many microseconds.
  abbrev pub lines_from : ℕ → List Access → List ℕ
  lines_from micros [] = []
  lines_from micros (access ∷ later) =
      access_line scene.format access (shown_around answered scene access (outcome_text (access ∷ later)) micros) ++ lines_from scene.later_micros later

  -- The lines of an event.
  abbrev pub event_lines : List ℕ
  event_lines = lines_from scene.first_micros answered.accesses
