-- The model of a text.
use Rattle.std.specs.Prelude.{ℕ, List, string_bytes}
use Rattle.sv_text.specs.declared.text.Inner.{Inner}
use Rattle.sv_text.specs.declared.text.Inner.TheVariants.{Short, Long}

-- The bytes of a text, stored in its value or on the heap.
abbrev pub bytes_of : Inner → List ℕ
bytes_of (Short text) = text.bytes
bytes_of (Long text) = string_bytes text
