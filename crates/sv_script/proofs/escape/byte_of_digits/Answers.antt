use Rattle.std.proofs.Common.{◌∷◌, ◌∙◌, ap, sym, arith}
use Rattle.std.proofs.lemmas.List.{nil_from_length}
use Rattle.sv_script.specs.Escape.{preceded_by, unescaped}
use Rattle.sv_script.proofs.EscapeLemmas.{both_read, no_digit_behind, no_high, no_low, one_digit_behind, with_digits}
use Rattle.sv_script.proofs.escape.byte_of_digits.Goals as goal

pub returns-in_err-high : goal.returns-in_err-high
returns-in_err-high c =
    rw c.from_residual.ensures (ap (λ text. unescaped (92 ∷ 120 ∷ text)) (nil_from_length c.args.text.now c.in_err-high.ensures.cases) ∙ no_digit_behind)

pub returns-in_err-low : goal.returns-in_err-low
returns-in_err-low c =
    rw c.from_residual-in_err-low.ensures (
    ap (λ text. unescaped (92 ∷ 120 ∷ text)) c.in_ok-high.ensures.cases.0
    ∙ ap (λ rest. unescaped (92 ∷ 120 ∷ c.in_ok-high.high.now ∷ rest)) (nil_from_length c.in_ok-high.rest.now c.in_err-low.ensures.cases)
    ∙ one_digit_behind c.in_ok-high.high.now)

pub returns-in_err-high-2 : goal.returns-in_err-high-2
returns-in_err-high-2 c =
    rw c.from_residual-in_err-high-2.ensures (
    with_digits c.args.text.now c.in_ok-high.rest.now c.in_ok-low.rest.now c.in_ok-high.high.now c.in_ok-low.low.now c.in_ok-high.ensures.cases.0 c.in_ok-low.ensures.cases.0
    ∙ ap (λ first. preceded_by first (unescaped c.in_ok-low.rest.now)) (no_high c.in_ok-high.high.now c.in_ok-low.low.now (sym c.hex_digit.ensures ∙ c.in_err-high-2.was)))

pub returns-in_err-low-2 : goal.returns-in_err-low-2
returns-in_err-low-2 c =
    rw c.from_residual-in_err-low-2.ensures (
    with_digits c.args.text.now c.in_ok-high.rest.now c.in_ok-low.rest.now c.in_ok-high.high.now c.in_ok-low.low.now c.in_ok-high.ensures.cases.0 c.in_ok-low.ensures.cases.0
    ∙ ap (λ first. preceded_by first (unescaped c.in_ok-low.rest.now)) (no_low c.in_ok-high.high.now c.in_ok-low.low.now (sym c.hex_digit-2.ensures ∙ c.in_err-low-2.was)))

pub returns : goal.returns
returns c = (
  with_digits c.args.text.now c.in_ok-high.rest.now c.in_ok-low.rest.now c.in_ok-high.high.now c.in_ok-low.low.now c.in_ok-high.ensures.cases.0 c.in_ok-low.ensures.cases.0
      ∙ ap (λ first. preceded_by first (unescaped c.in_ok-low.rest.now))
      (both_read c.in_ok-high-2.high c.in_ok-low-2.low c.in_ok-high.high.now c.in_ok-low.low.now (sym c.hex_digit.ensures ∙ c.in_ok-high-2.was) (sym c.hex_digit-2.ensures ∙ c.in_ok-low-2.was)),
  omega (arith, c.in_ok-high.ensures.cases.1, c.in_ok-low.ensures.cases.1),
)
