use Rattle.std.proofs.Common.{◌≡◌, true, sym, ◌∙◌, arith}
use Rattle.std.proofs.lemmas.Int.Digits.{digits_value_more}
use Rattle.sv_message.specs.Length.{is_length}
use Rattle.sv_message.proofs.PartsLemmas.{digits_fit, digit_is}
use Rattle.sv_message.proofs.length.length_of.Goals as goal

pub overflow_mul-number : goal.overflow_mul-number
overflow_mul-number c =
    let valid : is_length c.args.text.now ≡ true = sym c.is_length.ensures ∙ c.if-not-is_length.false in
    omega (arith, digits_fit c.args.text.now c.loop-b.b-index valid c.loop-b-test.true, c.loop-b.invariant)

pub overflow_add-number : goal.overflow_add-number
overflow_add-number c =
    let valid : is_length c.args.text.now ≡ true = sym c.is_length.ensures ∙ c.if-not-is_length.false in
    omega (
      arith,
      digits_fit c.args.text.now c.loop-b.b-index valid c.loop-b-test.true,
      digit_is c.args.text.now c.loop-b.b-index valid c.loop-b-test.true,
      c.loop-b.invariant,
    )

pub loop-b-preserved : goal.loop-b-preserved
loop-b-preserved c =
    let valid : is_length c.args.text.now ≡ true = sym c.is_length.ensures ∙ c.if-not-is_length.false in
    omega (
      arith,
      digits_value_more 10 c.args.text.now c.loop-b.b-index c.loop-b-test.true,
      digit_is c.args.text.now c.loop-b.b-index valid c.loop-b-test.true,
      c.loop-b.invariant,
    )
