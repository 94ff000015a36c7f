-- The laws of scripts.
use Rattle.std.specs.Prelude.{◌≡◌, ℕ, ◌<◌, List, Some}
use Rattle.std.specs.List.{All}
use Rattle.sv_script.specs.Escape.{escaped, unescaped}

-- the escaped text of bytes reads back as these bytes
abbrev pub ReadsBack : Type 0
ReadsBack = (bytes : List ℕ) → All (λ b. b < 256) bytes → unescaped (escaped bytes) ≡ Some bytes
