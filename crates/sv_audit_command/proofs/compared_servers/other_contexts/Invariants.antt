use Rattle.std.proofs.Common.{◌≡◌, ◌++◌, drop, Ok}
use Rattle.sv_text.specs.Steps.{◌>>=◌}
use Rattle.sv_audit_command.specs.ComparedServers.{other_context}
use Rattle.sv_program.specs.Configuration.{each}
use Rattle.sv_audit_command.proofs.compared_servers.other_contexts.Given as goal

abbrev pub invariant-loop-texts : goal.invariant-loop-texts
invariant-loop-texts l =
    (each (other_context l.is_secure) (drop l.texts-index l.texts) >>= λ rest. Ok (l.contexts.items ++ rest)) ≡ each (other_context l.is_secure) l.texts
