-- Steps in sequence: the first that fails gives the answer, as `?` does in code.
use Rattle.std.specs.Prelude.{Result, Ok, Err}

-- One step, and then the next with the value of the first.
infixl 10 ◌>>=◌
abbrev pub ◌>>=◌ : {A B E : Type 0} → Result A E → (A → Result B E) → Result B E
Ok a >>= next = next a
Err fault >>= next = Err fault

-- One step, and then the next.
infixl 10 ◌>>◌
abbrev pub ◌>>◌ : {A B E : Type 0} → Result A E → Result B E → Result B E
first >> next = first >>= (λ _. next)
