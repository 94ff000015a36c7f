use Rattle.std.proofs.Common.{◌≡◌, ◌++◌, drop, Ok}
use Rattle.sv_text.specs.Steps.{◌>>=◌}
use Rattle.sv_audited_contexts.specs.Audited.{audited_context}
use Rattle.sv_program.specs.Configuration.{each}
use Rattle.sv_audited_contexts.proofs.audited_context.contexts_beside.Given as goal

-- the remaining texts give the remaining contexts
abbrev pub invariant-loop-found : goal.invariant-loop-found
invariant-loop-found l =
    (each (audited_context l.options l.paths) (drop l.found-index l.found) >>= λ rest. Ok (l.contexts.items ++ rest)) ≡ each (audited_context l.options l.paths) l.found
