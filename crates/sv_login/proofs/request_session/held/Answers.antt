use Rattle.std.proofs.Common.{sym, ◌∙◌}
use Rattle.sv_login.proofs.HeldLemmas.{held_here, held_later}
use Rattle.sv_login.proofs.request_session.held.Goals as goal

pub returns-in-Some : goal.returns-in-Some
returns-in-Some c =
    held_here c.args.name.now c.args.sessions.now.store c.args.fields.now c.loop-field.field-index c.field-item.result c.loop-field-test.true
    c.field-item.is c.loop-field.invariant c.in-Some.number (sym c.held_by_field.ensures ∙ c.in-Some.is)

pub loop-field-preserved : goal.loop-field-preserved
loop-field-preserved c =
    held_later c.args.name.now c.args.sessions.now.store c.args.fields.now c.loop-field.field-index c.field-item.result c.loop-field-test.true
    c.field-item.is c.loop-field.invariant (sym c.held_by_field.ensures ∙ c.in_default.is)
