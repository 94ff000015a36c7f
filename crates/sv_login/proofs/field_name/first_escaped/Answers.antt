use Rattle.std.proofs.Common.{◌≡◌, ◌+◌, ◌*◌, get_or, arith, rules}
use Rattle.std.proofs.lemmas.List.{take_rest}
use Rattle.std.specs.Char.{digit_value}
use Rattle.sv_login.proofs.NameLemmas.{keeps_first, decodes_escape}
use Rattle.sv_login.proofs.field_name.first_escaped.Goals as goal

pub returns-in_default : goal.returns-in_default
returns-in_default c = keeps_first _ (λ long percent high low. grind arith)

pub returns-in_err-high : goal.returns-in_err-high
returns-in_err-high c = rw c.from_residual.ensures (keeps_first _ (λ long percent high low. search rules))

pub returns-in_err-low : goal.returns-in_err-low
returns-in_err-low c = rw c.from_residual-in_err-low.ensures (keeps_first _ (λ long percent high low. search rules))

pub returns : goal.returns
returns c =
    let bytes = c.args.encoded.now in
    let value : c.in_ok-high.high * 16 + c.in_ok-low.low ≡ 16 * digit_value (get_or bytes 1 0) + digit_value (get_or bytes 2 0) = grind arith in
    rw (take_rest bytes 3, value) (decodes_escape bytes (omega arith) (search rules) (search rules) (search rules))
