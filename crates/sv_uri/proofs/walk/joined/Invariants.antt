use Rattle.std.proofs.Common.{◌≡◌, take}
use Rattle.sv_uri.specs.Walked.{shown}
use Rattle.sv_uri.proofs.TargetLemmas.{slashed}
use Rattle.sv_uri.proofs.walk.joined.Given as goal

abbrev pub invariant-loop-name : goal.invariant-loop-name
invariant-loop-name l = l.path ≡ slashed (shown (take l.name-index l.names))
