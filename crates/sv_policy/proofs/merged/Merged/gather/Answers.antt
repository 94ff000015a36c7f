use Rattle.std.proofs.Common.{sym, ◌∙◌}
use Rattle.std.specs.Option.{option_copied}
use Rattle.sv_policy.specs.Covering.{covers_at}
use Rattle.sv_policy.proofs.Admitted.{gathered, gathered_all, passed_over}
use Rattle.sv_policy.proofs.merged.Merged.gather.Goals as goal
use Rattle.sv_policy.proofs.merged.Merged.gather.Goals.{then-covers_at+in_ok-add, else-covers_at}

pub loop-member-init : goal.loop-member-init
loop-member-init c = c.none-merged.ensures c.args.rules.now

pub loop-member-preserved : goal.loop-member-preserved
loop-member-preserved c =
    elim c.if-covers_at.branch [
      | then-covers_at+in_ok-add w ↦
          gathered c.args.rules.now (λ member. covers_at member c.args.pattern.now (option_copied c.args.method)) c.args.members.now c.loop-member.member-index c.member-item.result c.loop-member.merged c.if-covers_at.merged
          c.loop-member-test.true c.member-item.is c.loop-member.invariant w.add.new.self (sym c.covers_at.ensures ∙ w.if-covers_at.true) w.in_ok-add.ensures w.merged-is
      | else-covers_at w ↦
          passed_over c.args.rules.now (λ member. covers_at member c.args.pattern.now (option_copied c.args.method)) c.args.members.now c.loop-member.member-index c.member-item.result c.loop-member.merged c.if-covers_at.merged
          c.loop-member-test.true c.member-item.is c.loop-member.invariant (sym c.covers_at.ensures ∙ w.if-covers_at.false) w.merged-is
    ]

pub returns : goal.returns
returns c =
    gathered_all c.args.rules.now (λ member. covers_at member c.args.pattern.now (option_copied c.args.method)) c.args.members.now c.loop-member.member-index c.loop-member.merged c.loop-member-test.false c.loop-member.invariant
