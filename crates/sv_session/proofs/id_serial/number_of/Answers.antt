use Rattle.std.proofs.Common.{sym, ◌∙◌, ap}
use Rattle.hex.specs.Hex.{encode_lower}
use Rattle.sv_session.proofs.SerialLemmas.{decodes, no_others, reads_back}
use Rattle.sv_session.proofs.id_serial.number_of.Goals as goal

pub returns-in_default : goal.returns-in_default
returns-in_default c = λ number same.
    let read = decodes c.args.digits.now number same in
    cc

pub returns-then-ne : goal.returns-then-ne
returns-then-ne c = λ number same.
    let back = reads_back c.args.digits.now c.in-Ok.bytes number c.from_be_bytes-number.result same c.in-Ok.ensures c.from_be_bytes-number.ensures in
    no_others c.args.digits.now c.as_slice.result.now (c.as_slice.ensures ∙ (c.in-Ok-encode_to_slice.ensures.written ∙ (ap encode_lower c.to_be_bytes.ensures ∙ back))) (sym c.ne.ensures ∙ c.if-ne.true)
