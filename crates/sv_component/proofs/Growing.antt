-- Runs extended by lists of records.
use Rattle.std.proofs.Common.{List, [], ◌∷◌, ◌++◌, sym, subst}
use Rattle.std.proofs.lemmas.List.{append-nil, append_assoc}
use Rattle.sv_component.specs.Runs.{IsRun, Moves, Record, Runs}
use Rattle.sv_component.specs.World.{World}
use Rattle.sv_component.proofs.Running.{grows_by}
use Rattle.sv_component.specs.Steps.{ComponentSteps}

module _ {S F L : Type 0} (moving : ComponentSteps S F L) where
  pub grows_none : (world : World S F L) → Runs moving world [] world
  grows_none world from done ran = subst (λ records. IsRun moving from records world) (sym (append-nil done)) ran

  pub grows_join : (before middle after : World S F L) (front back : List Record)
      → Runs moving before front middle → Runs moving middle back after → Runs moving before (front ++ back) after
  grows_join before middle after front back first second from done ran =
      subst (λ records. IsRun moving from records after) (append_assoc done front back) (second from (done ++ front) (first from done ran))

  pub grows_more : (start before after : World S F L) (records : List Record) (made : Record)
      → Runs moving start records before → Moves moving before made after → Runs moving start (records ++ made ∷ []) after
  grows_more start before after records made so_far moves =
      grows_join start before after records (made ∷ []) so_far (grows_by moving before made after moves)
