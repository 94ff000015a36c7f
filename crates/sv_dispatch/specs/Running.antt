-- A started context with the exchange of a request, as dispatches see them, and the results of its calls.
use Rattle.std.specs.Prelude.{Bool, true, false, Option, Some, None, Result, Ok, Err}
use Rattle.sv_exchange.specs.declared.exchange_fault.ExchangeFault.{ExchangeFault}
use Rattle.sv_exchange.specs.declared.exchange_fault.ExchangeFault.TheVariants as faults
use Rattle.sv_component.specs.declared.answers.Gate.{Gate}
use Rattle.sv_component.specs.declared.answers.Gate.TheVariants as gates
use Rattle.sv_component.specs.declared.answers.Step.{Step}
use Rattle.sv_component.specs.declared.answers.Step.TheVariants as steps
use Rattle.sv_exchange.specs.State as exchanges
use Rattle.sv_live.specs.Standing.{LiveState}
use Rattle.sv_text.specs.declared.no_memory.NoMemory.{NoMemory}
use Rattle.sv_tree.specs.State.{State}

abbrev pub state_of : {S F L : Type 0} → LiveState S F L → exchanges.State → State
state_of live its_exchange = record { exchange = its_exchange; standings = live.standings }

-- A servlet's step, or none if it ran out of memory.
abbrev pub step_seen : Step → Option Step
step_seen steps.NoMemory = None
step_seen step = Some step

-- A filter's gate, or none if it ran out of memory.
abbrev pub gate_seen : Gate → Option Gate
gate_seen gates.NoMemory = None
gate_seen gate = Some gate

-- The completion of a filter, or none if it ran out of memory.
abbrev pub done_seen : Result (Unit {0}) NoMemory → Option Bool
done_seen (Ok done) = Some true
done_seen (Err refusal) = None

-- The completion of a change of the exchange, or none if it ran out of memory.
abbrev pub made_seen : Result Bool ExchangeFault → Option (Unit {0})
made_seen (Ok done) = Some tt
made_seen (Err faults.NoMemory) = None
made_seen (Err fault) = Some tt

-- Whether the body had room for the bytes, or none if memory ran out.
abbrev pub offer_seen : Result Bool ExchangeFault → Option Bool
offer_seen (Ok done) = Some true
offer_seen (Err faults.NoMemory) = None
offer_seen (Err fault) = Some false
