use Rattle.std.proofs.Common.{◌≡◌, ◌+◌, ℕ, Bool, true, List, length}
use Rattle.std.specs.HashSet.{contains_text}
use Rattle.std.specs.Option.{option_copied, option_map_or}
use Rattle.sv_files.specs.Below.{IsClosed, is_at_or_above, lies_below}
use Rattle.sv_files.proofs.Folders.{entered}
use Rattle.sv_files.proofs.index.enter_folders.Given as goal

abbrev pub invariant-loop-rest : goal.invariant-loop-rest
invariant-loop-rest l =
    ((known : List ℕ → Bool) → IsClosed known → ((folder : List ℕ) → contains_text l.initial.folders folder ≡ known folder) → (folder : List ℕ) → contains_text l.folders folder ≡ entered known l.path (option_copied l.rest) folder)
    × ((outer : List ℕ) → is_at_or_above outer (option_copied l.rest) ≡ true → lies_below outer l.path ≡ true)

abbrev pub decreases-loop-rest : goal.decreases-loop-rest
decreases-loop-rest l = option_map_or (λ folder. length folder + 1) (option_copied l.rest) 0
