use Rattle.std.proofs.Common.{◌≡◌, take}
use Rattle.sv_mapping.specs.ContextIndexPlaces.{ArePlaces}
use Rattle.sv_mapping.proofs.context_index.ContextIndex.of.Given as goal

abbrev pub invariant-loop-place : goal.invariant-loop-place
invariant-loop-place l = record {
  places : ArePlaces l.places (take l.place l.paths);
  kept : l.kept.items ≡ take l.place l.paths;
}
