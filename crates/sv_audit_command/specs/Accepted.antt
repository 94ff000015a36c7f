-- The findings that an accepting file names by their keys.
use Rattle.std.specs.Prelude.{ℕ, Bool, List}
use Rattle.std.specs.List.{list_any}
use Rattle.std.specs.Str.{bytes_eq}
use Rattle.sv_audited_contexts.specs.LineFile.{lines_of}

-- Whether the key is a line of the file.
abbrev pub is_accepted : List ℕ → List ℕ → Bool
is_accepted accepted key = list_any (λ line. bytes_eq line key) (lines_of accepted)
