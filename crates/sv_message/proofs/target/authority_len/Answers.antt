use Rattle.std.proofs.Common.{length, sym, arith}
use Rattle.std.proofs.lemmas.List.Sums.{position_or_len_is}
use Rattle.sv_message.specs.TargetForm.{is_behind_authority}
use Rattle.sv_message.proofs.target.authority_len.Goals as goal

pub returns-then-is_behind_authority-clause-value : goal.returns-then-is_behind_authority-clause-value
returns-then-is_behind_authority-clause-value c =
    sym (position_or_len_is is_behind_authority c.args.behind.now c.loop-i.i 0 (omega arith) c.loop-i.invariant
    (λ inside. sym c.if-is_behind_authority.ensures))

pub returns-clause-value : goal.returns-clause-value
returns-clause-value c =
    sym (position_or_len_is is_behind_authority c.args.behind.now (length c.args.behind.now) 0 (omega arith)
    (λ k below. c.loop-i.invariant k (omega arith)) (λ inside. absurd (omega arith)))
