use Rattle.std.proofs.Common.{◌≡◌, ◌∷◌, ◌∙◌, None, ap, sym, subst, arith}
use Rattle.std.specs.Prelude.{MatchOption}
use Rattle.std.proofs.lemmas.List.{nil_from_length}
use Rattle.sv_script.specs.Escape.{Begins, preceded_by, unescaped}
use Rattle.sv_script.proofs.EscapeLemmas.{nothing_behind, with_letter}
use Rattle.sv_script.proofs.escape.byte_behind_backslash.Goals as goal

pub returns-in_err-letter : goal.returns-in_err-letter
returns-in_err-letter c =
    rw c.from_residual.ensures (ap (λ text. unescaped (92 ∷ text)) (nil_from_length c.args.text.now c.in_err-letter.ensures.cases) ∙ nothing_behind)

pub returns-then-letter-eq120 : goal.returns-then-letter-eq120
returns-then-letter-eq120 c =
    subst
    (λ text. MatchOption c.byte_of_digits.result (unescaped (92 ∷ text) ≡ None) (λ first. Begins (92 ∷ text) first.0 first.1.now))
    (sym (c.in_ok-letter.ensures.cases.0 ∙ ap (λ letter. letter ∷ c.in_ok-letter.rest.now) c.if-letter-eq120.true))
    c.byte_of_digits.ensures

pub returns-in_err-byte : goal.returns-in_err-byte
returns-in_err-byte c =
    rw c.from_residual-in_err-byte.ensures (
    with_letter c.args.text.now c.in_ok-letter.rest.now c.in_ok-letter.letter.now c.in_ok-letter.ensures.cases.0 c.if-letter-eq120.false
    ∙ ap (λ first. preceded_by first (unescaped c.in_ok-letter.rest.now)) (sym c.named_byte.ensures ∙ c.in_err-byte.was))

pub returns-in_ok-byte : goal.returns-in_ok-byte
returns-in_ok-byte c = (
  with_letter c.args.text.now c.in_ok-letter.rest.now c.in_ok-letter.letter.now c.in_ok-letter.ensures.cases.0 c.if-letter-eq120.false
      ∙ ap (λ first. preceded_by first (unescaped c.in_ok-letter.rest.now)) (sym c.named_byte.ensures ∙ c.in_ok-byte.was),
  omega (arith, c.in_ok-letter.ensures.cases.1),
)
