-- Texts that are equal to the text of an answer.
use Rattle.std.proofs.Common.{◌≡◌, ℕ, List, ◌∙◌, Result, Ok, Err}
use Rattle.sv_text.specs.Gives.{GivesAnswer}
use Rattle.sv_text.specs.declared.no_memory.NoMemory.{NoMemory}

pub given : (result : Result (List ℕ) NoMemory) (x y : List ℕ) → x ≡ y → GivesAnswer result x → GivesAnswer result y
given (Ok a) x y e h = h ∙ e
given (Err fault) x y e h = tt
