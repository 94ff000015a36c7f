-- Texts of parts.
use Rattle.std.specs.Prelude.{ℕ, List}
use Rattle.std.specs.List.{flat_map}

-- The parts, one after another.
abbrev pub joined : List (List ℕ) → List ℕ
joined parts = flat_map (λ part. part) parts
