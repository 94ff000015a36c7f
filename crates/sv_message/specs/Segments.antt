-- Bytes in segments.
use Rattle.std.specs.Prelude.{ℕ, List, [], ◌++◌, Option, None, Some}
use Rattle.std.specs.declared.alloc.Global.{Global}
use Rattle.std.specs.declared.boxed.Box.{Box}
use Rattle.sv_message.specs.declared.segments.Behind.{Behind}

-- The bytes behind the first segment.
abbrev pub bytes_behind : Option (Box Behind Global) → List ℕ
bytes_behind None = []
bytes_behind (Some behind) = behind.value.shared ++ behind.value.last.items
