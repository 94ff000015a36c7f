use Rattle.std.proofs.Common.{sym, ap, ◌∙◌, Some}
use Rattle.sv_saved_sessions.proofs.TextLemmas.{is_no_text, is_text}
use Rattle.sv_saved_sessions.proofs.cursor.text_of.Goals as goal

pub returns-in-Ok : goal.returns-in-Ok
returns-in-Ok c = ap Some c.in-Ok.ensures.cases.0 ∙ sym (is_text c.args.bytes.now c.in-Ok.ensures.cases.1)

pub returns-in-Err : goal.returns-in-Err
returns-in-Err c = sym (is_no_text c.args.bytes.now c.in-Err.ensures.cases.0)
