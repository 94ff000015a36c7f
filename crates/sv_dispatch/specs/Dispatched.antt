-- A dispatch over a started context.
use Rattle.std.specs.Prelude.{◌≡◌, List, Option, None, length}
use Rattle.sv_component.specs.Runs.{IsRun, Record}
use Rattle.sv_component.specs.Steps.{ComponentSteps}
use Rattle.sv_dispatch.specs.Running.{state_of}
use Rattle.sv_exchange.specs.State as exchanges
use Rattle.sv_journal.specs.Journal.{JournalState}
use Rattle.sv_live.specs.Standing.{LiveState, live_world}
use Rattle.sv_mapping.specs.declared.kind.Kind.{Kind}
use Rattle.sv_tree.specs.Site.{Site}
use Rattle.sv_tree.specs.Tree.{Tree}
use Rattle.sv_tree.specs.declared.finished.Finished.{Finished}
use Rattle.sv_tree.specs.declared.limits.TheConstants.{MAX_NESTING}
use Rattle.sv_uri.specs.declared.path.Canon.{Canon}

-- There is no result, no component was called, and nothing changed.
pub record Refused {S F L A : Type 0} (live : LiveState S F L) (exchange : exchanges.State) (noted : JournalState) (result : Option A) (live_after : LiveState S F L) (exchange_after : exchanges.State) (noted_after : JournalState) : Type 0 where
  pub result_is : result ≡ None
  pub live_is : live_after ≡ live
  pub exchange_is : exchange_after ≡ exchange
  pub noted_is : noted_after ≡ noted

module _ {S F L : Type 0} (moving : ComponentSteps S F L) where
  -- The calls that were made and logged are those of a dispatch of the kind to the path. The context, the numbers of
  -- servlets, filters and listeners, and the initialized components stay. A dispatch that runs out of memory has no
  -- result.
  pub record Dispatched (site : Site) (kind : Kind) (canon : Canon) (live : LiveState S F L) (exchange : exchanges.State) (noted : JournalState) (result : Option Finished) (live_after : LiveState S F L) (exchange_after : exchanges.State) (noted_after : JournalState) : Type 0 where
    pub made : List Record
    pub is_tree : Tree site MAX_NESTING kind canon (state_of live exchange) made (state_of live_after exchange_after) result
    pub runs : IsRun moving (live_world live noted) made (live_world live_after noted_after)
    pub servlets : length live_after.parts.servlets.items ≡ length live.parts.servlets.items
    pub filters : length live_after.parts.filters.items ≡ length live.parts.filters.items
    pub listeners : length live_after.parts.listeners.items ≡ length live.parts.listeners.items
    pub context : live_after.context ≡ live.context
    pub initialised : live_after.initialised ≡ live.initialised
