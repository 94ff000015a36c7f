use Rattle.std.proofs.Common.{◌≡◌, ◌++◌, map}
use Rattle.std.specs.Vec.Iter.{into_iter_items}
use Rattle.sv_audit_command.specs.ComparedServers.{compared}
use Rattle.sv_audit_command.proofs.compared_servers.compared_contexts.Given as goal

abbrev pub invariant-loop-context : goal.invariant-loop-context
invariant-loop-context l = (l.compared.items ≡ map compared l.yielded) × (l.yielded ++ into_iter_items l.context-iterator ≡ l.fn.contexts)
