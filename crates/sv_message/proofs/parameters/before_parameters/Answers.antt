use Rattle.std.proofs.Common.{ℕ, ◌==◌, length, take, sym, ap, ◌∙◌, arith, rules, take_all}
use Rattle.std.proofs.lemmas.List.Sums.{position_or_len_is}
use Rattle.sv_message.specs.Form.{semicolon}
use Rattle.sv_message.proofs.parameters.before_parameters.Goals as goal

pub returns-in-Some : goal.returns-in-Some
returns-in-Some c =
    let value = c.args.value.now in
    let found = position_or_len_is (λ (b : ℕ). b == semicolon) value c.in-Some.end 0 (search rules) (search rules) (search rules) in
    ap (λ n. take n value) (sym found)

pub returns-in-None : goal.returns-in-None
returns-in-None c =
    let value = c.args.value.now in
    let none = position_or_len_is (λ (b : ℕ). b == semicolon) value (length value) 0 (omega arith) (search rules) (search rules) in
    sym (ap (λ n. take n value) none ∙ take_all (length value) value (omega arith))
