use Rattle.std.proofs.Common.{◌≡◌, ◌++◌, take}
use Rattle.sv_audited_contexts.proofs.held.push_copies.Given as goal

abbrev pub invariant-loop-text : goal.invariant-loop-text
invariant-loop-text l = l.roles.items ≡ l.initial.roles.items ++ take l.text-index l.texts
