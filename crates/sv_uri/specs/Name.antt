-- The model of a name.
use Rattle.std.specs.Prelude.{ℕ, List}
use Rattle.std.specs.Cow.{cow_slice_items}
use Rattle.sv_uri.specs.declared.name.Name.{Name}

-- The bytes of a name, as written or decoded.
abbrev pub bytes_of : Name → List ℕ
bytes_of name = cow_slice_items name.bytes
