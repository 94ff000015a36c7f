use Rattle.std.proofs.Common.{◌≡◌, drop}
use Rattle.sv_login.specs.Held.{held}
use Rattle.sv_login.proofs.request_session.held.Given as goal

-- The remaining fields name the same session as all fields.
abbrev pub invariant-loop-field : goal.invariant-loop-field
invariant-loop-field l = held l.name (drop l.field-index l.fields) l.sessions.store ≡ held l.name l.fields l.sessions.store
