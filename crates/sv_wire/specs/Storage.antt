-- The bytes that a reader of a body stores besides the body. The limit is this server's own.
use Rattle.std.specs.Prelude.{◌<◌, length}
use Rattle.sv_wire.specs.declared.limits.TheConstants.{MAX_TRAILER_LEN}
use Rattle.sv_wire.specs.declared.machine.Machine.{Machine}
use Rattle.sv_wire.specs.Machine.{IsFit}

-- The held part of an open text is shorter than the longest trailer section.
abbrev pub OpenTextsAreShort : Type 0
OpenTextsAreShort = (machine : Machine) → IsFit machine → length machine.held.items < MAX_TRAILER_LEN
