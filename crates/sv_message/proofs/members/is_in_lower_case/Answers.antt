use Rattle.std.proofs.Common.{◌≡◌, length, sym, ◌∙◌, arith}
use Rattle.sv_message.proofs.FieldsLemmas.{lowered_other, lowered_same}
use Rattle.sv_message.proofs.members.is_in_lower_case.Goals as goal

pub returns-then-to_ascii_lowercase-word : goal.returns-then-to_ascii_lowercase-word
returns-then-to_ascii_lowercase-word c =
    sym (lowered_other c.args.bytes.now c.args.word.now c.loop-i.i c.loop-i-test.true
    (λ same. c.if-to_ascii_lowercase-word.true (c.to_ascii_lowercase.ensures.value ∙ same)))

pub returns : goal.returns
returns c =
    let long : length c.args.bytes.now ≡ length c.args.word.now = omega arith in
    sym (lowered_same c.args.bytes.now c.args.word.now long (λ k inside. c.loop-i.invariant k (omega arith)))
