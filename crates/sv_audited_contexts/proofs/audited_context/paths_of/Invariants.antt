use Rattle.std.proofs.Common.{◌≡◌, map, take}
use Rattle.sv_audited_contexts.proofs.audited_context.paths_of.Given as goal

abbrev pub invariant-loop-found : goal.invariant-loop-found
invariant-loop-found l = l.paths.items ≡ map (λ context. context.texts.context.path) (take l.found-index l.found)
