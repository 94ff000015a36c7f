use Rattle.std.proofs.Common.{List, ℕ, subst}
use Rattle.std.proofs.lemmas.Str.{is_utf8-from_IsUtf8}
use Rattle.sv_saved_sessions.specs.Saved.{IsByteString}
use Rattle.sv_saved_sessions.proofs.encoding.append_text.Goals as goal

pub returns-clause-fits : goal.returns-clause-fits
returns-clause-fits c =
    (subst (λ (text : List ℕ). IsByteString text) c.as_bytes.ensures.value c.in_ok-append_bytes.ensures.fits, is_utf8-from_IsUtf8 c.args.text.now c.utf8.text)
