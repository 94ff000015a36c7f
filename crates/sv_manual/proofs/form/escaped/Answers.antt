use Rattle.std.proofs.Common.{sym, ◌∙◌, append_assoc, append-nil}
use Rattle.std.proofs.lemmas.Str.{IsUtf8-past_char}
use Rattle.sv_manual.proofs.Escapes.{escaped_empty, escaped_step}
use Rattle.sv_manual.proofs.form.escaped.Goals as goal

pub loop-c-preserved : goal.loop-c-preserved
loop-c-preserved c =
    let held = c.loop-c.invariant in
    let parts = c.in-Some.ensures.steps.0 in
    let step = escaped_step c.args.form _ _ c.in-Some.c held.0 parts in
    (IsUtf8-past_char _ _ c.in-Some.c held.0 parts, rw (c.in_ok-push_escaped.ensures, append_assoc) (rw step at held.1))

pub returns : goal.returns
returns c = c.from_string.ensures ∙ (sym (append-nil _) ∙ rw (escaped_empty c.args.form _ c.in-None.ensures.steps.0.0) at c.loop-c.invariant.1)
