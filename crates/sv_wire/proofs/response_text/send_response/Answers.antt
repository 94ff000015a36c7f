use Rattle.std.proofs.Common.{refl}
use Rattle.sv_wire.proofs.response_text.send_response.Goals as goal

pub returns-clause-text : goal.returns-clause-text
returns-clause-text c =
    let shown = c.as_bytes.ensures in
    let text = c.in_ok-text.ensures shown.0 shown.2 in
    (shown.0, shown.1, rw (c.in_ok-append.ensures.ok, text) refl)
