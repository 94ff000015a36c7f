use Rattle.std.proofs.Common.{◌≡◌, map}
use Rattle.std.specs.Map.Iter.{deref_pair}
use Rattle.sv_policy.proofs.Excepted.{excepted}
use Rattle.sv_policy.proofs.entries.Entries.exceptions.Given as goal

abbrev pub invariant-loop-name : goal.invariant-loop-name
invariant-loop-name l = l.names.items ≡ excepted l.self.rest (map deref_pair l.yielded)
