use Rattle.std.proofs.Common.{◌≡◌, List, drop, map, string_bytes}
use Rattle.std.specs.List.{find}
use Rattle.sv_arguments.proofs.given.rival_in.Given as goal
use Rattle.sv_arguments.specs.Given.{AreOf}
use Rattle.sv_arguments.specs.Settings.{Setting, given_rival, is_given}

abbrev pub invariant-loop-other : goal.invariant-loop-other
invariant-loop-other l =
    (settings : List Setting) → AreOf l.set (map string_bytes l.words) settings
    → find (is_given settings) (drop l.other-index l.other-items) ≡ given_rival settings l.fn.key
