-- Editing the context that has a path.
use Rattle.std.proofs.Common.{◌≡◌, ◌≢◌, ℕ, zero, suc, ◌<◌, List, [], ◌∷◌, None, Some, Result, Ok, Err, IfOk, length, map, slice_index_or, slice_set, refl, sym, ap, ◌∙◌, subst, arith}
use Rattle.sv_run.proofs.Handling.{there_at}
use Rattle.sv_run.specs.Output.{Adds}
use Rattle.sv_run.specs.declared.output.Output.{Output}
use Rattle.sv_policy.specs.declared.edit.Edit.{Edit}
use Rattle.sv_policy.specs.declared.edit_fault.EditFault.{EditFault}
use Rattle.sv_policy.specs.declared.edit_fault.EditFault.TheVariants.{NoSuch, NoMemory}
use Rattle.sv_run.specs.Contexts.{Theory}
use Rattle.sv_run.specs.Editing.{EditsContext, EditsIn, place_with}
use Rattle.sv_run.specs.Effect.{Effect, editing}
use Rattle.sv_run.specs.Events.{Edited, Happening, Happens}
use Rattle.sv_run.specs.State.{State, with_contexts}

pub same_path : {Context : Type 0} (path_of : Context → List ℕ) (contexts : List Context) (place : ℕ) (old new : Context)
    → place < length contexts → old ≡ slice_index_or contexts place old → path_of new ≡ path_of old
    → map path_of (slice_set contexts place new) ≡ map path_of contexts
same_path path_of [] place old new within is same = refl
same_path path_of (context ∷ contexts) zero old new within is same = ap (λ p. p ∷ map path_of contexts) (same ∙ ap path_of is)
same_path path_of (context ∷ contexts) (suc place) old new within is same =
    ap (λ ps. path_of context ∷ ps) (same_path path_of contexts place old new (omega (arith, within)) is same)

module _ {C W : Type 0} (theory : Theory C W) where
  pub edits_none : (before : List C) (path : List ℕ) (edit : Edit) → place_with theory before path ≡ None
      → EditsIn theory (place_with theory before path) before edit (Err NoSuch) before
  edits_none before path edit none = subst (λ found. EditsIn theory found before edit (Err NoSuch) before) (sym none) (refl, refl)

  pub edits_there : (before : List C) (path : List ℕ) (edit : Edit) (place : ℕ) (old new : C) (answer : Result ℕ EditFault)
      → place_with theory before path ≡ Some place → place < length before → old ≡ slice_index_or before place old
      → theory.conduct.Edits old edit answer new → answer ≢ Err NoMemory
      → EditsIn theory (place_with theory before path) before edit answer (slice_set before place new)
  edits_there before path edit place old new answer some within is edits answers =
      subst (λ found. EditsIn theory found before edit answer (slice_set before place new)) (sym some)
      record {
        context = old;
        there = there_at before place old within is;
        edited = new;
        edits = edits;
        answers = answers;
        is_after = refl;
      }

  -- running out of memory leaves the contexts unchanged
  pub unedited : (before new : List C) (place : ℕ) (old context : C) → place < length before → old ≡ slice_index_or before place old → context ≡ old
      → slice_set before place context ≡ before
  unedited [] new place old context within is same = refl
  unedited (first ∷ before) new zero old context within is same = ap (λ c. c ∷ before) (same ∙ is)
  unedited (first ∷ before) new (suc place) old context within is same =
      ap (λ cs. first ∷ cs) (unedited before new place old context (omega (arith, within)) is same)

  pub edits_state : (before : State C W) (contexts : List C) (path : List ℕ) (edit : Edit) (answer told : Result ℕ EditFault)
      → told ≡ answer → EditsIn theory (place_with theory before.world.contexts path) before.world.contexts edit answer contexts
      → EditsContext theory before path edit (editing told) (with_contexts contexts before)
  edits_state before contexts path edit answer told same edits =
      record { answer = answer; contexts = contexts; edits = edits; brings = ap editing same; is_after = refl }

  pub edits_happen : (state after : State C W) (happening : Happening) (path : List ℕ) (edit : Edit) (effect : Effect C) → happening ≡ Edited path edit
      → EditsContext theory state path edit effect after → Happens theory state happening effect after
  edits_happen state after happening path edit effect is edits = subst (λ h. Happens theory state h effect after) (sym is) edits

  pub edits_happen_so : {T E : Type 0} (result : Result T E) (state after : State C W) (happening : Happening) (path : List ℕ) (edit : Edit) (start end : Output)
      → happening ≡ Edited path edit
      → IfOk result (λ _. (effect : Effect C) × EditsContext theory state path edit effect after × Adds start effect end)
      → IfOk result (λ _. (effect : Effect C) × Happens theory state happening effect after × Adds start effect end)
  edits_happen_so (Err wanted) state after happening path edit start end is edits = tt
  edits_happen_so (Ok done) state after happening path edit start end is edits =
      (edits.0, edits_happen state after happening path edit edits.0 is edits.1, edits.2)
