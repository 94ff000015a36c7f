-- The answer that a definition gives, unless memory ran out. All crates state their results in this form.
use Rattle.std.specs.Prelude.{◌≡◌, Option, Result, Ok, Err, IfOk, MatchOption}
use Rattle.sv_text.specs.declared.no_memory.NoMemory.{NoMemory}

-- The result is the answer, unless memory ran out.
abbrev pub GivesAnswer : {A : Type 0} → Result A NoMemory → A → Type 0
GivesAnswer result answer = IfOk result (λ a. a ≡ answer)

-- The same for a definition with faults: `fault` is `None` if memory ran out, and the definition's fault for each other
-- error.
abbrev pub Gives : {A E F : Type 0} → (E → Option F) → Result A E → Result A F → Type 0
Gives fault (Ok a) answer = answer ≡ Ok a
Gives fault (Err e) answer = MatchOption (fault e) (Unit {0}) (λ f. answer ≡ Err f)
