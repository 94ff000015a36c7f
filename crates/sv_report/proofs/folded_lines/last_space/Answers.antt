use Rattle.std.proofs.Common.{arith, rules, take}
use Rattle.std.proofs.lemmas.List.{length-take}
use Rattle.sv_report.proofs.FoldedLemmas.{at_other, at_space, is_within}
use Rattle.sv_report.proofs.folded_lines.last_space.Goals.{then-character-eq32, else-character-eq32}
use Rattle.sv_report.proofs.folded_lines.last_space.Goals as goal

pub loop-character-preserved : goal.loop-character-preserved
loop-character-preserved c = (
  search rules,
  elim c.if-character-eq32.branch [
    | then-character-eq32 w ↦ at_space _ c.loop-character.character-index c.character-item.result c.loop-character.place _ c.loop-character-test.true c.character-item.is c.loop-character.invariant.0 w.last-is w.if-character-eq32.true
    | else-character-eq32 w ↦ at_other _ c.loop-character.character-index c.character-item.result _ _ c.loop-character-test.true c.character-item.is c.loop-character.invariant.1 w.last-is w.if-character-eq32.false
  ],
)

pub returns-clause-within : goal.returns-clause-within
returns-clause-within c =
    is_within (take c.loop-character.character-index c.args.characters.now) c.loop-character.last _ c.loop-character.invariant.1
    (omega (arith, length-take c.loop-character.character-index c.args.characters.now))
