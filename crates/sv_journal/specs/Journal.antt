-- How a journal takes entries.
use Rattle.std.specs.Prelude.{◌≡◌, Bool, true, false, ◌⊎◌, List, [], ◌∷◌, ◌++◌, Result, Ok, Err, cond}
use Rattle.sv_text.specs.declared.no_memory.NoMemory.{NoMemory}
use Rattle.sv_journal.specs.declared.entry.Entry.{Entry}

pub record JournalState : Type 0 where
  pub entries : List Entry
  pub whole : Bool

abbrev pub new_journal : JournalState
new_journal = record { entries = []; whole = true }

-- The journal takes no more entries.
abbrev pub broken : JournalState → JournalState
broken journal = record journal { whole = false }

-- The journal with one more entry.
abbrev pub with_entry : Entry → JournalState → JournalState
with_entry entry journal = record journal { entries = journal.entries ++ entry ∷ [] }

-- A whole journal adds the entry or breaks, and a broken one does not change.
abbrev pub Takes : JournalState → Entry → JournalState → Type 0
Takes before entry after = cond before.whole ((after ≡ with_entry entry before) ⊎ (after ≡ broken before)) (after ≡ before)

-- A journal takes an entry that could be made, and breaks if it could not be made.
abbrev pub Notes : JournalState → Result Entry NoMemory → JournalState → Type 0
Notes before (Ok entry) after = Takes before entry after
Notes before (Err refusal) after = after ≡ broken before

-- The entries that a journal has gained: all of them if it is whole, a prefix of them if it is broken, and none if it
-- was broken before.
pub record Gains (before : JournalState) (entries : List Entry) (after : JournalState) : Type 0 where
  pub front : List Entry
  pub rest : List Entry
  pub are : entries ≡ front ++ rest
  pub gained : after.entries ≡ before.entries ++ front
  pub all : after.whole ≡ true → (before.whole ≡ true) × (rest ≡ [])
  pub none : before.whole ≡ false → front ≡ []
