-- Contexts that stop without notifications about their sessions.
use Rattle.std.proofs.Common.{true, List, [], ◌∷◌, length, map, sym, ap, subst}
use Rattle.sv_component.proofs.Running.{runs_grown}
use Rattle.sv_component.specs.Runs.{IsRun}
use Rattle.sv_component.specs.Steps.{ComponentSteps}
use Rattle.sv_container.specs.Stopping.{AllStopQuietly, StoppedContainersStopQuietly, StopsQuietly, contexts_to_stop, journal_to_stop}
use Rattle.sv_context.specs.Deployment.{Undeploys}
use Rattle.sv_context.specs.Forgetting.{without_sessions}
use Rattle.sv_context.specs.Several.{UndeploysAll}
use Rattle.sv_context.specs.State.{ContextState, in_service, world_of}
use Rattle.sv_lifecycle.specs.declared.deployment.Deployment.{Deployment}
use Rattle.sv_journal.specs.Journal.{JournalState}
use Rattle.sv_live.specs.Calls.{stop_calls}
use Rattle.sv_live.specs.World.{world}
use Rattle.sv_tree.specs.SiteOfDescriptor.{Content}

module _ {S F L : Type 0} (moving : ComponentSteps S F L) where
  one_quiet : (context : ContextState S F L) (before after : JournalState) (back : Deployment S F L) → Undeploys moving (without_sessions context) before back after
      → StopsQuietly moving context before back.parts after
  one_quiet context before after back undeploys =
      let made = stop_calls (length context.listeners) (in_service context) [] in
      subst (λ path. IsRun moving (world_of context before) made (world path back.parts after)) (ap (λ (content : Content). content.context_path) undeploys.content)
      (runs_grown moving (world_of (without_sessions context) before) (world back.path back.parts after) made undeploys.stops)

  all_quiet : (contexts : List (ContextState S F L)) (before after : JournalState) (back : List (Deployment S F L))
      → UndeploysAll moving (map without_sessions contexts) before back after
      → AllStopQuietly moving contexts before (map (λ deployment. deployment.parts) back) after
  all_quiet [] before after back undeploys = (ap (map (λ deployment. deployment.parts)) undeploys.0, undeploys.1)
  all_quiet (context ∷ contexts) before after back undeploys = (
    undeploys.0.parts,
    map (λ deployment. deployment.parts) undeploys.1,
    undeploys.2,
    one_quiet context before undeploys.2 undeploys.0 undeploys.3,
    all_quiet contexts undeploys.2 after undeploys.1 undeploys.4,
    ap (map (λ deployment. deployment.parts)) undeploys.5,
  )

  pub stopped_stop_quietly : (Words : Type 0) → StoppedContainersStopQuietly moving Words
  stopped_stop_quietly Words state parts journal stopped shuts =
      subst (λ its. AllStopQuietly moving state.world.contexts (journal_to_stop true) its journal) (sym shuts.are)
      (all_quiet state.world.contexts (journal_to_stop true) journal shuts.back
      (subst (λ flag. UndeploysAll moving (contexts_to_stop flag state.world.contexts) (journal_to_stop flag) shuts.back journal) stopped shuts.undeploys))
