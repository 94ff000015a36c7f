use Rattle.std.proofs.Common.{◌≡◌, ℕ, ◌+◌, List, ◌++◌, cond, take, Some, rules}
use Rattle.std.specs.Option.{option_copied}
use Rattle.sv_mapping.specs.BestMatch.{best_pattern}
use Rattle.sv_mapping.proofs.BestMatches.{best_pattern-next, best_with-next, best_with-none}
use Rattle.sv_mapping.proofs.best_match.better.Goals as goal
use Rattle.sv_mapping.proofs.best_match.better.Goals.{then-takes_over, else-takes_over}

pub loop-pattern-init : goal.loop-pattern-init
loop-pattern-init c = (best_with-none (option_copied c.args.found) c.args.path.now, search rules)

pub loop-pattern-preserved : goal.loop-pattern-preserved
loop-pattern-preserved c =
    let with_next = best_with-next (option_copied c.args.found) c.args.patterns.now c.args.path.now c.pattern-item.result c.loop-pattern.pattern-index (option_copied c.loop-pattern.held) c.takes_over.result c.loop-pattern-test.true c.pattern-item.is c.loop-pattern.invariant.0 c.takes_over.ensures in
    let joined_next : (before : List (List ℕ)) → best_pattern before c.args.path.now ≡ option_copied c.args.found → cond c.takes_over.result (Some c.pattern-item.result) (option_copied c.loop-pattern.held) ≡ best_pattern (before ++ take (c.loop-pattern.pattern-index + 1) c.args.patterns.now) c.args.path.now =
    λ before was. best_pattern-next before c.args.patterns.now c.args.path.now c.pattern-item.result c.loop-pattern.pattern-index (option_copied c.loop-pattern.held) c.takes_over.result c.loop-pattern-test.true c.pattern-item.is (c.loop-pattern.invariant.1 before was) c.takes_over.ensures
    in
    elim c.if-takes_over.branch [
      | then-takes_over w ↦ (rw w.held-is (rw w.if-takes_over.true at with_next), λ before was. rw w.held-is (rw w.if-takes_over.true at joined_next before was))
      | else-takes_over w ↦ (rw w.held-is (rw w.if-takes_over.false at with_next), λ before was. rw w.held-is (rw w.if-takes_over.false at joined_next before was))
    ]
