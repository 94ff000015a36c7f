use Rattle.std.proofs.Common.{◌≡◌, ◌++◌}
use Rattle.std.specs.Vec.Iter.{into_iter_items}
use Rattle.sv_audit_command.specs.ExplainedRequest.{sites_of}
use Rattle.sv_audit_command.proofs.explained_request.sites_of.Given as goal

abbrev pub invariant-loop-context : goal.invariant-loop-context
invariant-loop-context l = (l.sites.items ≡ sites_of l.asked l.yielded) × (l.yielded ++ into_iter_items l.context-iterator ≡ l.fn.contexts)
