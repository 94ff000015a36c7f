use Rattle.std.proofs.Common.{sym, ◌∙◌, ap}
use Rattle.std.specs.Option.{option_copied}
use Rattle.sv_web.proofs.SentLemmas.{sent_here, sent_later}
use Rattle.sv_web.proofs.request_cookies.cookie_in_fields.Goals as goal

pub returns-in-Some : goal.returns-in-Some
returns-in-Some c =
    sent_here c.args.name.now c.args.fields.now c.loop-field.field-index c.field-item.result c.loop-field-test.true
    c.field-item.is c.loop-field.invariant c.in-Some.value.now (sym c.cookie_in_field.ensures ∙ ap option_copied c.in-Some.is)

pub loop-field-preserved : goal.loop-field-preserved
loop-field-preserved c =
    sent_later c.args.name.now c.args.fields.now c.loop-field.field-index c.field-item.result c.loop-field-test.true
    c.field-item.is c.loop-field.invariant (sym c.cookie_in_field.ensures ∙ ap option_copied c.in_default.is)
