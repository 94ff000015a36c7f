use Rattle.std.proofs.Common.{◌≡◌, take}
use Rattle.sv_mapping.specs.Index.{Finds}
use Rattle.sv_mapping.proofs.pattern_table.PatternTable.compile.Given as goal

abbrev pub invariant-loop-place : goal.invariant-loop-place
invariant-loop-place l = record {
  finds : Finds l.index (take l.place l.patterns);
  texts : l.texts.items ≡ take l.place l.patterns;
}
