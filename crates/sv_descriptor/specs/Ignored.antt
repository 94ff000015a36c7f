-- Jakarta Servlet 6.0 section 14.4: the keys that any element may have and that the container ignores.
use Rattle.std.specs.Prelude.{ℕ, List, [], ◌∷◌, codes, Ok}
use Rattle.toml.specs.Data.{Members}
use Rattle.sv_descriptor.specs.Fault.{Located}
use Rattle.sv_descriptor.specs.Table.{only_keys}

abbrev pub ignored_keys : List (List ℕ)
ignored_keys = codes "description" ∷ codes "display-name" ∷ []

-- The table has only these keys and the ignored ones.
abbrev pub element_keys : List (List ℕ) → Members → Located (Unit {0})
element_keys known table = only_keys known ignored_keys table

-- A text that the container ignores.
abbrev pub ignored_text : List ℕ → List ℕ → Located (Unit {0})
ignored_text key text = Ok tt
