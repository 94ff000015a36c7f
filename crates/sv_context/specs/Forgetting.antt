-- A context without its sessions.
use Rattle.sv_context.specs.Deployment.{no_sessions}
use Rattle.sv_context.specs.State.{ContextState}

-- The context has no session, as before its first request.
abbrev pub without_sessions : {S F L : Type 0} → ContextState S F L → ContextState S F L
without_sessions context = record context { store = no_sessions context.content.app }
