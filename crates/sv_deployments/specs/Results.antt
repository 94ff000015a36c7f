-- Two results combined into one.
use Rattle.std.specs.Prelude.{Ok, Err}
use Rattle.sv_program.specs.Configuration.{Step}

-- both values, or the first fault
abbrev pub both : {A B : Type 0} → Step A → Step B → Step (A × B)
both (Ok one) (Ok other) = Ok (one, other)
both (Ok one) (Err fault) = Err fault
both (Err fault) other = Err fault
