-- Calls that follow other calls, context by context.
use Rattle.std.proofs.Common.{◌≡◌, ℕ, zero, suc, inl, inr, List, [], ◌∷◌, ◌++◌, Result, length, refl, sym, ap, ◌∙◌, subst}
use Rattle.sv_component.specs.Runs.{IsRun}
use Rattle.sv_component.proofs.Running.{runs_join}
use Rattle.sv_component.specs.Steps.{ComponentSteps}
use Rattle.sv_context.specs.Conduct.{IsMoved, conduct, unnoted}
use Rattle.sv_context.specs.Editing.{Edits}
use Rattle.sv_context.specs.Retirement.{retires_join, retires_none}
use Rattle.sv_context.specs.State.{ContextState, world_of}
use Rattle.sv_headline.specs.Lives.{AllLive, ComponentsAreDestroyedOnce, Lives}
use Rattle.sv_policy.specs.declared.edit.Edit.{Edit}
use Rattle.sv_policy.specs.declared.edit_fault.EditFault.{EditFault}
use Rattle.sv_run.specs.Events.{Alters, AltersAll}

module _ {S F L : Type 0} (moving : ComponentSteps S F L) where
  -- no call was made
  lives_same : (before after : ContextState S F L) → world_of after unnoted ≡ world_of before unnoted → after.standings ≡ before.standings
      → after.initialised ≡ before.initialised → length after.servlets ≡ length before.servlets → length after.filters ≡ length before.filters
      → length after.listeners ≡ length before.listeners → Lives moving before after
  unfolding IsRun
  lives_same before after same stand inited of_servlets of_filters of_listeners = record {
    made = [];
    runs = same;
    retires = retires_none before.standings after.standings stand;
    initialised = inited;
    servlets = of_servlets;
    filters = of_filters;
    listeners = of_listeners;
  }

  lives_then : (before between after : ContextState S F L) → Lives moving before between → Lives moving between after → Lives moving before after
  lives_then before between after one two = record {
    made = one.made ++ two.made;
    runs = runs_join moving (world_of before unnoted) (world_of between unnoted) (world_of after unnoted) one.made two.made one.runs two.runs;
    retires = retires_join before.standings between.standings after.standings one.made two.made one.retires two.retires;
    initialised = two.initialised ∙ one.initialised;
    servlets = two.servlets ∙ one.servlets;
    filters = two.filters ∙ one.filters;
    listeners = two.listeners ∙ one.listeners;
  }

  moved_lives : (before after : ContextState S F L) → IsMoved moving before after → Lives moving before after
  moved_lives before after moved = record {
    made = moved.made;
    runs = moved.runs;
    retires = moved.retires;
    initialised = moved.stays.initialised;
    servlets = moved.stays.servlets;
    filters = moved.stays.filters;
    listeners = moved.stays.listeners;
  }

  -- an edit makes no call
  edited_lives : (before after : ContextState S F L) (edit : Edit) (answer : Result ℕ EditFault) → Edits before edit answer after → Lives moving before after
  edited_lives before after edit answer edits =
      lives_same before after
      (ap (λ (context : ContextState S F L). world_of context unnoted) edits.stays)
      (ap (λ (context : ContextState S F L). context.standings) edits.stays)
      (ap (λ (context : ContextState S F L). context.initialised) edits.stays)
      (ap (λ (context : ContextState S F L). length context.servlets) edits.stays)
      (ap (λ (context : ContextState S F L). length context.filters) edits.stays)
      (ap (λ (context : ContextState S F L). length context.listeners) edits.stays)

  altered_lives : (before after : ContextState S F L) → Alters (conduct moving) before after → Lives moving before after
  altered_lives before after (inl moves) = moved_lives before after moves
  altered_lives before after (inr edited) =
      lives_then before edited.0 after (moved_lives before edited.0 edited.3) (edited_lives edited.0 after edited.1 edited.2 edited.4)

  -- ---- context by context

  all_same : (contexts : List (ContextState S F L)) → AllLive moving contexts contexts
  all_same [] = refl
  all_same (context ∷ contexts) = (context, contexts, lives_same context context refl refl refl refl refl refl, all_same contexts, refl)

  all_then : (before between after : List (ContextState S F L)) → AllLive moving before between → AllLive moving between after → AllLive moving before after
  all_then [] between after one two = subst (λ contexts. AllLive moving contexts after) one two
  all_then (context ∷ contexts) between after one two =
      let later = subst (λ those. AllLive moving those after) one.4 two in (
        later.0,
        later.1,
        lives_then context one.0 later.0 one.2 later.2,
        all_then contexts one.1 later.1 one.3 later.3,
        later.4,
      )

  all_altered : (before after : List (ContextState S F L)) → AltersAll (conduct moving) before after → AllLive moving before after
  all_altered [] after alters = alters
  all_altered (context ∷ contexts) after alters =
      (alters.0, alters.1, altered_lives context alters.0 alters.2, all_altered contexts alters.1 alters.3, alters.4)

  pub components_are_destroyed_once : ComponentsAreDestroyedOnce moving
  components_are_destroyed_once zero before after same = subst (λ contexts. AllLive moving before contexts) (sym same) (all_same before)
  components_are_destroyed_once (suc events) before after alters =
      all_then before alters.0 after (all_altered before alters.0 alters.1) (components_are_destroyed_once events alters.0 after alters.2)
