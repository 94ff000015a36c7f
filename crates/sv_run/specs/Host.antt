-- A host of contexts and their connections (RFC 9112, section 9; Jakarta Servlet 6.0, section 7.5).
use Rattle.std.specs.Prelude.{◌≡◌, Bool, false, List, [], Result, Ok, Err}
use Rattle.sv_run.specs.declared.host.Host.{Host}
use Rattle.sv_run.specs.Accesses.{logged}
use Rattle.sv_run.specs.Connections.{connections_of, no_connections}
use Rattle.sv_run.specs.Contexts.{Theory}
use Rattle.sv_run.specs.Effect.{Effect, shown}
use Rattle.sv_run.specs.Events.{Happening, Steps}
use Rattle.sv_run.specs.State.{State, world_of}
use Rattle.sv_run.specs.declared.access.Access.{Access}
use Rattle.sv_run.specs.declared.happening.Reaction.{Reaction}
use Rattle.sv_run.specs.declared.step_fault.StepFault.{StepFault}

abbrev pub state_of : {C W : Type 0} → Host C W → State C W
state_of host =
    record {
      stopped = host.stopped;
      world = world_of host.contexts host.words;
      moment = host.date;
      connections = connections_of host.connections;
    }

-- the state before any event
abbrev pub opening : {C W : Type 0} → List C → W → State C W
opening contexts words = record { stopped = false; world = world_of contexts words; moment = 0; connections = no_connections }

module _ {C W : Type 0} (theory : Theory C W) where
  -- an event is handled as the run specifies, and the reaction is the visible part of its effect
  abbrev pub StepsSo : State C W → Happening → Result Reaction StepFault → State C W → Type 0
  StepsSo before happening (Ok reaction) after = (effect : Effect C) × Steps theory before happening (Ok effect) after × (reaction ≡ shown effect)
  StepsSo before happening (Err fault) after = Steps theory before happening (Err fault) after

  -- the same, with the accesses of the event if a log wants them; a fault leaves none
  abbrev pub LogsSo : Bool → State C W → Happening → Result Reaction StepFault → State C W → List Access → Type 0
  LogsSo logs before happening (Ok reaction) after accesses =
      (effect : Effect C) × Steps theory before happening (Ok effect) after × (reaction ≡ shown effect) × (accesses ≡ logged logs effect.accesses)
  LogsSo logs before happening (Err fault) after accesses = Steps theory before happening (Err fault) after × (accesses ≡ [])
