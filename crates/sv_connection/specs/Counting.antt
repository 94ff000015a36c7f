-- How many connections are open, from note to note.
use Rattle.std.specs.Prelude.{◌≡◌, ℕ, ◌+◌, ◌<◌, List, [], ◌∷◌}
use Rattle.sv_connection.specs.Notes.{Note, Of}
use Rattle.sv_connection.specs.Slots.{Action, Closes, Ends, EndsUntold, Opens, OpensUntold}

module _ {S : Type 0} (most : ℕ) where
  -- The number of open connections before and after an action. A connection is opened only if fewer than `most` are open.
  abbrev pub CountsAction : ℕ → Action S → ℕ → Type 0
  CountsAction before (Opens reaction) after = (before < most) × (after ≡ before + 1)
  CountsAction before OpensUntold after = (before < most) × (after ≡ before + 1)
  CountsAction before (Ends cause stream closing reaction) after = before ≡ after + 1
  CountsAction before (EndsUntold cause stream closing) after = before ≡ after + 1
  CountsAction before (Closes stream closing) after = before ≡ after + 1
  CountsAction before other after = after ≡ before

  abbrev pub CountsOne : ℕ → Note S → ℕ → Type 0
  CountsOne before (Of number action) after = CountsAction before action after
  CountsOne before other after = after ≡ before

  -- The same of notes one after another.
  abbrev pub Counts : ℕ → List (Note S) → ℕ → Type 0
  Counts before [] after = after ≡ before
  Counts before (note ∷ notes) after = (between : ℕ) × CountsOne before note between × Counts between notes after
