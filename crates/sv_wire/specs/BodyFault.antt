-- The names of a body's faults (RFC 9112, section 7.1).
use Rattle.std.specs.Prelude.{ℕ, List, codes}
use Rattle.sv_wire.specs.declared.body_fault.BodyFault.{BodyFault}
use Rattle.sv_wire.specs.declared.body_fault.BodyFault.TheVariants.{BadChunk, TooLarge, TrailerTooLarge}

abbrev pub name_of : BodyFault → List ℕ
name_of BadChunk = codes "BadChunk"
name_of TooLarge = codes "TooLarge"
name_of TrailerTooLarge = codes "TrailerTooLarge"
