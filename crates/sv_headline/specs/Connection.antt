-- The output of a connection, from the bytes that are read to those that are written (RFC 9112, section 9; Jakarta
-- Servlet 6.0, section 13.8).
use Rattle.std.specs.Prelude.{◌≡◌, ℕ, false, [], ◌∷◌, ◌++◌, filter, map, Result, Ok}
use Rattle.std.specs.List.{AllByRecursion}
use Rattle.sv_component.specs.Steps.{ComponentSteps}
use Rattle.sv_headline.specs.Until.{IsLawfulUntilRefused}
use Rattle.sv_connection.specs.Connection.{Connects}
use Rattle.sv_connection.specs.Running.{IsARun, events_of}
use Rattle.sv_connection.specs.declared.over.Over.{Over}
use Rattle.sv_container.specs.Container.{state_of}
use Rattle.sv_container.specs.declared.container.Container.{Container}
use Rattle.sv_context.specs.Theory.{theory}
use Rattle.sv_run.specs.Host.{StepsSo}
use Rattle.sv_run.specs.Lawful.{is_outcome}
use Rattle.sv_run.specs.Laws.{EntersWhereAllowed, deed_entry}
use Rattle.sv_run.specs.Reacting.{Reacting}
use Rattle.sv_run.specs.Runs.{deeds_of, journal_of}
use Rattle.sv_run.specs.declared.step_fault.StepFault.{StepFault}
use Rattle.sv_streams.specs.Calls.{Making}

module _ {S F L W T C : Type 0} (moving : ComponentSteps S F L)
    (draws : W → ℕ × ℕ → W → Type 0) (makes : Making T) (tells : C → ℕ → C → Type 0) where
  -- the container takes an event
  abbrev pub TakesSo : Reacting (Container S F L W)
  TakesSo before happening result after = StepsSo (theory moving draws) (state_of before) happening result (state_of after)

  -- the events of the connection are a run of the container, whose responses are written; the entries of the run
  -- report the outcome of each message once, in order; a request enters exactly if the combined constraints allow it;
  -- and if the container was running, the run is lawful until memory runs out
  pub record IsSentLawfully (connection : ℕ) (before : Container S F L W) (stream : T) (clock : C) (result : Result Over StepFault)
      (after : Container S F L W) (stream_after : T) (clock_after : C) : Type 0 where
    pub served : IsARun TakesSo makes tells (theory moving draws) state_of connection before stream clock result after
        stream_after clock_after
    pub outcomes : filter is_outcome (journal_of (map Ok served.accepted ++ served.last ∷ []))
        ≡ map (deed_entry (theory moving draws)) (deeds_of (map Ok served.accepted ++ served.last ∷ []))
    pub entered : AllByRecursion (EntersWhereAllowed (theory moving draws)) (deeds_of (map Ok served.accepted ++ served.last ∷ []))
    pub lawful : (state_of before).stopped ≡ false → IsLawfulUntilRefused moving draws (state_of before)
        (events_of connection served.pieces served.over) (map Ok served.accepted ++ served.last ∷ []) (state_of after)

  abbrev pub WhatAConnectionIsSentIsLawful : Type 0
  WhatAConnectionIsSentIsLawful =
      (connection : ℕ) (before : Container S F L W) (stream : T) (clock : C) (result : Result Over StepFault) (after : Container S F L W) (stream_after : T)
      (clock_after : C) → Connects TakesSo makes tells connection before stream clock result after stream_after clock_after
      → IsSentLawfully connection before stream clock result after stream_after clock_after
