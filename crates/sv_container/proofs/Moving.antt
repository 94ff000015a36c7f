-- Contexts that calls or edits change.
use Rattle.std.proofs.Common.{◌≡◌, List, [], ◌∷◌, length, map, ap, ◌∙◌, suc, inl, inr}
use Rattle.sv_component.specs.Steps.{ComponentSteps}
use Rattle.sv_context.specs.Conduct.{conduct}
use Rattle.sv_context.specs.State.{ContextState}
use Rattle.sv_run.specs.Events.{Alters, AltersAll}
use Rattle.sv_tree.specs.SiteOfDescriptor.{Content}

module _ {S F L : Type 0} (moving : ComponentSteps S F L) where
  path_kept : (before after : ContextState S F L) → Alters (conduct moving) before after
      → after.content.context_path ≡ before.content.context_path
  path_kept before after (inl moves) = ap (λ (content : Content). content.context_path) moves.stays.content
  path_kept before after (inr edited) =
      ap (λ (context : ContextState S F L). context.content.context_path) edited.4.stays
      ∙ ap (λ (content : Content). content.context_path) edited.3.stays.content

  -- no context is added or removed, and each keeps its path
  pub paths_kept : (before after : List (ContextState S F L)) → AltersAll (conduct moving) before after
      → map (λ context. context.content.context_path) after ≡ map (λ context. context.content.context_path) before
  paths_kept [] after alters = ap (map (λ context. context.content.context_path)) alters
  paths_kept (context ∷ contexts) after alters =
      ap (map (λ context. context.content.context_path)) alters.4
      ∙ (λ i. path_kept context alters.0 alters.2 i ∷ paths_kept contexts alters.1 alters.3 i)

  pub count_kept : (before after : List (ContextState S F L)) → AltersAll (conduct moving) before after
      → length after ≡ length before
  count_kept [] after alters = ap length alters
  count_kept (context ∷ contexts) after alters = ap length alters.4 ∙ ap suc (count_kept contexts alters.1 alters.3)
