-- Answering a request over a started context.
use Rattle.std.specs.Prelude.{◌≡◌, List, [], Option}
use Rattle.sv_component.specs.Runs.{IsRun, Record}
use Rattle.sv_component.specs.declared.standing.Standing.{Standing}
use Rattle.sv_component.specs.Steps.{ComponentSteps}
use Rattle.sv_dispatch.specs.Running.{state_of}
use Rattle.sv_exchange.specs.State as exchanges
use Rattle.sv_journal.specs.Journal.{JournalState}
use Rattle.sv_live.specs.Standing.{LiveState, live_world}
use Rattle.sv_live.specs.World.{HasSameCounts}
use Rattle.sv_tree.specs.Does.{Does}

-- The action only affects the exchange: it makes no call, and keeps the servlets' states, whatever they are.
abbrev pub Alone : {A : Type 0} → Does A → exchanges.State → exchanges.State → Option A → Type 0
Alone does before after result =
    (its_standings : List Standing)
    → does (record { exchange = before; standings = its_standings }) [] (record { exchange = after; standings = its_standings }) result

module _ {S F L : Type 0} (moving : ComponentSteps S F L) where
  -- The action is done by these calls, which were made and logged. The context, the numbers of components, and the
  -- initialized components stay. An action that runs out of memory has no result.
  pub record ServedBy {A : Type 0} (does : Does A) (live : LiveState S F L) (exchange : exchanges.State) (noted : JournalState) (result : Option A) (live_after : LiveState S F L) (exchange_after : exchanges.State) (noted_after : JournalState) : Type 0 where
    pub made : List Record
    pub does_so : does (state_of live exchange) made (state_of live_after exchange_after) result
    pub runs : IsRun moving (live_world live noted) made (live_world live_after noted_after)
    pub counts : HasSameCounts live.parts live_after.parts
    pub context : live_after.context ≡ live.context
    pub initialised : live_after.initialised ≡ live.initialised
