use Rattle.std.proofs.Common.{◌≡◌, [], map, take}
use Rattle.std.specs.Prelude.{slice_index_or}
use Rattle.sv_explanation.proofs.entries.names_at.Given as goal

abbrev pub invariant-loop-place : goal.invariant-loop-place
invariant-loop-place l =
    l.names.items ≡ map (λ place. slice_index_or (map (λ filter. filter.filter_name) l.filters) place []) (take l.place-index l.places)
