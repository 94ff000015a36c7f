use Rattle.std.proofs.Common.{◌≡◌}
use Rattle.sv_container.proofs.Mapping.{mapped_to}
use Rattle.sv_context.specs.Forgetting.{without_sessions}
use Rattle.sv_container.proofs.shutdown.forget_sessions.Given as goal

abbrev pub invariant-loop-place : goal.invariant-loop-place
invariant-loop-place g l = l.contexts ≡ mapped_to without_sessions l.place l.initial.contexts
