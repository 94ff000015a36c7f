-- Calls of components, with the exchange before and after the call, if there is one (Jakarta Servlet 6.0, chapters 2, 6
-- and 11).
use Rattle.std.specs.Prelude.{ℕ, Bool}
use Rattle.sv_component.specs.declared.answers.Gate.{Gate}
use Rattle.sv_component.specs.declared.answers.Init.{Init}
use Rattle.sv_component.specs.declared.answers.Step.{Step}
use Rattle.sv_component.specs.declared.config.Config.{Config}
use Rattle.sv_exchange.specs.State.{State}
use Rattle.sv_session.specs.declared.event.Event.{Event}

pub data Call : Type 0 where
  Inited : Config → Init → Call
  Serviced : State → ℕ → Step → State → Call
  Entered : State → Gate → State → Call
  Left : State → Bool → State → Call
  Heard : Event → Call
  Destroyed : Call
