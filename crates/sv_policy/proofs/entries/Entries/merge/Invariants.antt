use Rattle.std.proofs.Common.{map, take}
use Rattle.sv_policy.specs.Entries.{HasEntries, entry_in}
use Rattle.sv_policy.proofs.entries.Entries.merge.Given as goal

abbrev pub invariant-loop-name : goal.invariant-loop-name
invariant-loop-name l =
    HasEntries l.rules (map (λ member. member.now) l.members) l.pattern (entry_in l.methods) (map (λ name. name.now) (take l.name-index l.name-items))
