-- A container: started contexts and their connections.
use Rattle.std.specs.Prelude.{Bool, List}
use Rattle.sv_container.specs.declared.container.Container.{Container}
use Rattle.sv_context.specs.State.{ContextState}
use Rattle.sv_run.specs.Host as host
use Rattle.sv_run.specs.State.{State}
use Rattle.sv_run.specs.declared.access.Access.{Access}

module _ {S F L W : Type 0} where
  abbrev pub state_of : Container S F L W → State (ContextState S F L) W
  state_of container = host.state_of container.host

  -- whether a log wants the accesses of events
  abbrev pub logs_of : Container S F L W → Bool
  logs_of container = container.host.logs

  -- the accesses of the last event
  abbrev pub accesses_of : Container S F L W → List Access
  accesses_of container = container.host.accesses.items
