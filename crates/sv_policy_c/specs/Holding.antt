-- The memory that a handle owns.
use mathlib.Core.Path.{◌≡◌}
use base.Fml.{Fml, feq}
use denote.RawPtr.{Ptr, null_ptr}
use Rattle.std.specs.Prelude.{Option, None, Some}
use Rattle.libc.specs.Heap.{chunk}
use Rattle.std_alloc.specs.Box.Ownership.{box_owns}
use Rattle.sv_policy_c.specs.declared.engine.Engine.{Engine}
use Rattle.sv_policy_c.specs.contracts.engine.Engine.{the_row}

-- null owns nothing; any other pointer owns the engine, with the right to free its block
abbrev pub holding : Option Engine → Ptr → Fml
holding None p = feq Ptr p null_ptr
holding (Some engine) p = box_owns chunk the_row p engine
