-- Words that count.
use Rattle.std.specs.Prelude.{◌≡◌, ℕ, ◌+◌, ◌-◌, ◌^◌, min}

-- the count rises by one with each pair, up to the greatest number, and the pair is 0 and the count
abbrev pub DrawsCount : ℕ → ℕ × ℕ → ℕ → Type 0
DrawsCount before pair after = (after ≡ min (before + 1) (2 ^ 64 - 1)) × (pair ≡ (0, after))
