-- The readings of a run, in order.
use Rattle.std.specs.Prelude.{◌≡◌, ℕ, List, [], ◌∷◌, Result}
use Rattle.sv_program.specs.declared.unavailable.Unavailable.{Unavailable}

-- the text of a file, or why it is not available
abbrev pub FileText : Type 0
FileText = Result (List ℕ) Unavailable

-- the requested name, and what a reading of the file gave
pub record Reading : Type 0 where
  pub name : List ℕ
  pub text : FileText

-- the model of a reading in stores of this type: the store before it, the name, the text, and the store after it
abbrev pub Giving : Type 0 → Type 1
Giving S = S → List ℕ → FileText → S → Type 0

-- the store gives these readings in order, each for its name, and is then in this state
abbrev pub AreRead : {S : Type 0} → Giving S → S → List Reading → S → Type 0
AreRead gives before [] after = after ≡ before
AreRead {S} gives before (reading ∷ rest) after = (between : S) × gives before reading.name reading.text between × AreRead gives between rest after
