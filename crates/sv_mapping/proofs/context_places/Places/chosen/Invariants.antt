use Rattle.std.proofs.Common.{◌≡◌, ◌+◌, ℕ, List, length}
use Rattle.std.specs.List.{position}
use Rattle.std.specs.Option.{option_copied, option_map_or}
use Rattle.sv_mapping.specs.ContextIndexPlaces.{ArePlaces}
use Rattle.sv_mapping.proofs.ContextIndexChoice.{chosen_in}
use Rattle.sv_mapping.specs.Chosen.{is_chosen}
use Rattle.sv_mapping.proofs.context_places.Places.chosen.Given as goal

abbrev pub invariant-loop-rest : goal.invariant-loop-rest
invariant-loop-rest l = (paths : List (List ℕ)) → ArePlaces l.self paths → position (is_chosen paths l.path) paths ≡ chosen_in paths (option_copied l.rest)

abbrev pub decreases-loop-rest : goal.decreases-loop-rest
decreases-loop-rest l = option_map_or (λ front. length front + 1) (option_copied l.rest) 0
