-- The output of a connection, for our contexts.
use Rattle.std.proofs.Common.{ℕ, [], ◌∷◌, ◌++◌, map, Ok, Err, refl, ap}
use Rattle.sv_component.specs.Steps.{ComponentSteps}
use Rattle.sv_headline.specs.Until.{EveryRunIsLawfulUntilRefused}
use Rattle.sv_connection.specs.Running.{AConnectionIsARun, events_of}
use Rattle.sv_container.specs.Container.{state_of}
use Rattle.sv_container.specs.declared.container.Container.{Container}
use Rattle.sv_context.specs.State.{ContextState}
use Rattle.sv_context.specs.Theory.{theory}
use Rattle.sv_headline.specs.Connection.{TakesSo, WhatAConnectionIsSentIsLawful}
use Rattle.sv_run.specs.Laws.{RequestsEnterExactlyWhereAllowed}
use Rattle.sv_run.specs.Reacting.{StepsLike}
use Rattle.sv_run.specs.State.{State}
use Rattle.sv_streams.specs.Calls.{Making}

module _ {S F L W T C : Type 0} (moving : ComponentSteps S F L)
    (draws : W → ℕ × ℕ → W → Type 0) (makes : Making T) (tells : C → ℕ → C → Type 0) where
  -- the container takes its events as the run of its contexts does
  like : StepsLike (TakesSo moving draws makes tells) (theory moving draws) state_of
  like before after happening (Ok reaction) steps = (Ok steps.0, steps.1, ap Ok steps.2)
  like before after happening (Err fault) steps = (Err fault, steps, refl)

  pub is_sent : EveryRunIsLawfulUntilRefused moving draws
      → RequestsEnterExactlyWhereAllowed (theory moving draws)
      → ((seen : Container S F L W → State (ContextState S F L) W)
      → AConnectionIsARun (TakesSo moving draws makes tells) makes tells
      (theory moving draws) seen)
      → WhatAConnectionIsSentIsLawful moving draws makes tells
  is_sent every enters runs connection before stream clock result after stream_after clock_after connects =
      let run = runs state_of like connection before stream clock result after stream_after clock_after connects in
      let holds = enters (state_of before) (state_of after) (events_of connection run.pieces run.over) (map Ok run.accepted ++ run.last ∷ []) run.runs in
      record {
        served = run;
        outcomes = holds.0;
        entered = holds.1;
        lawful = λ goes_on.
            every (state_of before) (state_of after) (events_of connection run.pieces run.over) (map Ok run.accepted ++ run.last ∷ []) goes_on run.runs;
      }
