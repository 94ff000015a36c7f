-- Runs extended by one record, and runs in sequence.
use Rattle.std.proofs.Common.{List, [], ◌∷◌, ◌++◌, refl, subst}
use Rattle.sv_component.specs.Runs.{IsRun, Moves, Record, Runs}
use Rattle.sv_component.specs.World.{World}
use Rattle.sv_component.specs.Steps.{ComponentSteps}

module _ {S F L : Type 0} (moving : ComponentSteps S F L) where
  pub runs_on : (from : World S F L) (done : List Record) (before : World S F L) (made : Record) (after : World S F L)
      → IsRun moving from done before → Moves moving before made after → IsRun moving from (done ++ made ∷ []) after
  unfolding IsRun
  runs_on from [] before made after ran moves = (after, subst (λ w. Moves moving w made after) ran moves, refl)
  runs_on from (first ∷ others) before made after ran moves = (ran.0, ran.1, runs_on ran.0 others before made after ran.2 moves)

  pub runs_join : (from middle to : World S F L) (front back : List Record)
      → IsRun moving from front middle → IsRun moving middle back to → IsRun moving from (front ++ back) to
  unfolding IsRun
  runs_join from middle to [] back ran more = subst (λ w. IsRun moving w back to) ran more
  runs_join from middle to (first ∷ others) back ran more = (ran.0, ran.1, runs_join ran.0 middle to others back ran.2 more)

  -- One more record.
  pub grows_by : (before : World S F L) (made : Record) (after : World S F L) → Moves moving before made after → Runs moving before (made ∷ []) after
  grows_by before made after moves from done ran = runs_on from done before made after ran moves

  -- The records by themselves form a run.
  pub runs_grown : (before after : World S F L) (records : List Record) → Runs moving before records after → IsRun moving before records after
  unfolding IsRun
  runs_grown before after records grows = grows before [] refl
