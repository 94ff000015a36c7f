use Rattle.std.proofs.Common.{ap, sym, ◌∙◌, bit_xor, arith}
use Rattle.std.proofs.lemmas.List.{length-set}
use Rattle.sv_saved_sessions.specs.Hmac.{padded_key}
use Rattle.sv_saved_sessions.proofs.Padding.{all_equal, byte_after_key, byte_of_key, one_more, padded_length}
use Rattle.sv_saved_sessions.proofs.hmac.padded_key.Goals as goal
use Rattle.sv_saved_sessions.proofs.hmac.padded_key.Goals.{then-place-key, else-place-key}

pub loop-place-preserved : goal.loop-place-preserved
loop-place-preserved c = (
  length-set c.loop-place.block c.loop-place.place (bit_xor c.if-place-key.byte c.args.pad) ∙ c.loop-place.invariant.0,
  one_more c.loop-place.block (padded_key c.args.pad c.args.key.now) c.loop-place.place (bit_xor c.if-place-key.byte c.args.pad) c.loop-place.invariant.1
      (omega (arith, c.loop-place.invariant.0, c.loop-place-test.true)) (omega (arith, padded_length c.args.pad c.args.key.now c.requires, c.loop-place-test.true))
      (elim c.if-place-key.branch [
        | then-place-key w ↦ byte_of_key c.args.pad c.args.key.now c.loop-place.place (omega (arith, w.if-place-key)) c.requires ∙ ap (λ b. bit_xor b c.args.pad) (sym w.byte-is)
        | else-place-key w ↦ byte_after_key c.args.pad c.args.key.now c.loop-place.place c.requires (omega (arith, w.if-place-key)) c.loop-place-test.true ∙ ap (λ b. bit_xor b c.args.pad) (sym w.byte-is)
      ]),
)

pub returns : goal.returns
returns c = all_equal c.loop-place.block (padded_key c.args.pad c.args.key.now) c.loop-place.place c.loop-place.invariant.1 (omega (arith, c.loop-place.invariant.0, c.loop-place-test.false)) (omega (arith, padded_length c.args.pad c.args.key.now c.requires, c.loop-place-test.false))
