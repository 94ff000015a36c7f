use Rattle.std.proofs.Common.{sym, ◌∙◌}
use Rattle.std.specs.Option.{option_copied}
use Rattle.sv_constraints.proofs.Found.{found_covered, found_uncovered}
use Rattle.sv_constraints.proofs.findings.Findings.gather.Goals as goal
use Rattle.sv_constraints.proofs.findings.Findings.gather.Goals.{then-covers, else-covers}

pub loop-constraint-init : goal.loop-constraint-init
loop-constraint-init c = c.none-found.ensures c.args.rules.now (option_copied c.args.caller)

pub loop-constraint-preserved : goal.loop-constraint-preserved
loop-constraint-preserved c =
    elim c.if-covers.branch [
      | then-covers w ↦
          w.found-is ∙ w.with-found.ensures
          ∙ found_covered c.args.rules.now (option_copied c.args.caller) c.args.constraints.now c.args.pattern.now c.args.method.now
          c.loop-constraint.constraint-index c.constraint-item.result c.loop-constraint.found
          c.loop-constraint-test.true c.constraint-item.is (sym c.covers.ensures ∙ w.if-covers.true) c.loop-constraint.invariant
      | else-covers w ↦
          w.found-is
          ∙ found_uncovered c.args.rules.now (option_copied c.args.caller) c.args.constraints.now c.args.pattern.now c.args.method.now
          c.loop-constraint.constraint-index c.constraint-item.result c.loop-constraint.found
          c.loop-constraint-test.true c.constraint-item.is (sym c.covers.ensures ∙ w.if-covers.false) c.loop-constraint.invariant
    ]
