use Rattle.std.proofs.Common.{length}
use Rattle.std.specs.List.{slice_split}
use Rattle.std.specs.Option.{option_copied}
use Rattle.sv_script.proofs.NameLemmas.{AreRead}
use Rattle.sv_script.specs.Names.{is_comma, parts_of}
use Rattle.sv_script.proofs.names.names_of.Given as goal

abbrev pub invariant-loop-rest : goal.invariant-loop-rest
invariant-loop-rest l = AreRead l.kind (slice_split is_comma l.fn.text) l.names.items (parts_of (option_copied l.rest))

abbrev pub decreases-loop-rest : goal.decreases-loop-rest
decreases-loop-rest l = length (parts_of (option_copied l.rest))
