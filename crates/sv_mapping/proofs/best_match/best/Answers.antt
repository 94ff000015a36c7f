use Rattle.std.proofs.Common.{◌≡◌, true, []}
use Rattle.std.proofs.lemmas.Bool.{and_parts}
use Rattle.std.specs.Option.{option_copied}
use Rattle.sv_mapping.specs.BestMatch.{is_best}
use Rattle.sv_mapping.specs.Pattern.{matches}
use Rattle.sv_mapping.proofs.BestMatches.{best-next, best-whole, best_pattern-next}
use Rattle.sv_mapping.proofs.FirstBest.{get-position, position_holds, position_within}
use Rattle.sv_mapping.proofs.best_match.best.Goals as goal
use Rattle.sv_mapping.proofs.best_match.best.Goals.{then-takes_over, else-takes_over}

pub loop-place-preserved : goal.loop-place-preserved
loop-place-preserved c =
    let held_next = best_pattern-next [] c.args.patterns.now c.args.path.now c.index-patterns-place.result c.loop-place.place (option_copied c.loop-place.held) c.takes_over.result c.loop-place-test.true c.index-patterns-place.is c.loop-place.invariant.0 c.takes_over.ensures in
    let place_next = best-next c.args.patterns.now c.args.path.now c.index-patterns-place.result c.loop-place.place (option_copied c.loop-place.held) c.loop-place.best c.takes_over.result c.loop-place-test.true c.index-patterns-place.is c.loop-place.invariant.0 c.loop-place.invariant.1 c.takes_over.ensures in
    elim c.if-takes_over.branch [
      | then-takes_over w ↦ (rw w.held-is (rw w.if-takes_over.true at held_next), rw w.best-is (rw w.if-takes_over.true at place_next))
      | else-takes_over w ↦ (rw w.held-is (rw w.if-takes_over.false at held_next), rw w.best-is (rw w.if-takes_over.false at place_next))
    ]

pub returns-clause-within : goal.returns-clause-within
returns-clause-within c =
    rw (best-whole c.args.patterns.now c.args.path.now c.loop-place.place c.loop-place.best c.loop-place.invariant.1 c.loop-place-test.false) (position_within (is_best c.args.patterns.now c.args.path.now) c.args.patterns.now)

pub returns-clause-matching : goal.returns-clause-matching
returns-clause-matching c =
    rw (best-whole c.args.patterns.now c.args.path.now c.loop-place.place c.loop-place.best c.loop-place.invariant.1 c.loop-place-test.false)
    (position_holds (is_best c.args.patterns.now c.args.path.now) (λ pattern. matches pattern c.args.path.now ≡ true) c.args.patterns.now (λ pattern tops. (and_parts (matches pattern c.args.path.now) _ tops).0))

pub returns-clause-text : goal.returns-clause-text
returns-clause-text c =
    rw (best-whole c.args.patterns.now c.args.path.now c.loop-place.place c.loop-place.best c.loop-place.invariant.1 c.loop-place-test.false) (get-position (is_best c.args.patterns.now c.args.path.now) c.args.patterns.now)
