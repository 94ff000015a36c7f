-- The editing of a context's constraints (Jakarta Servlet 6.0, section 13.8).
use Rattle.std.specs.Prelude.{◌≡◌, ◌≢◌, ℕ, List, bytes_eq, map, position, slice_get, slice_set, Option, None, Some, Result, Err}
use Rattle.sv_policy.specs.declared.edit.Edit.{Edit}
use Rattle.sv_policy.specs.declared.edit_fault.EditFault.{EditFault}
use Rattle.sv_policy.specs.declared.edit_fault.EditFault.TheVariants.{NoSuch, NoMemory}
use Rattle.sv_run.specs.Contexts.{Theory}
use Rattle.sv_run.specs.Effect.{Effect, editing}
use Rattle.sv_run.specs.State.{State, with_contexts}

module _ {Context Words : Type 0} (theory : Theory Context Words) where
  -- the place of the first context that has the path
  abbrev pub place_with : List Context → List ℕ → Option ℕ
  place_with contexts path = position (bytes_eq path) (map theory.path_of contexts)

  -- the context at the place is edited, and the others stay; running out of memory is no answer
  pub record EditsAt (place : ℕ) (before : List Context) (edit : Edit) (answer : Result ℕ EditFault) (after : List Context) : Type 0 where
    pub context : Context
    pub there : slice_get before place ≡ Some context
    pub edited : Context
    pub edits : theory.conduct.Edits context edit answer edited
    pub answers : answer ≢ Err NoMemory
    pub is_after : after ≡ slice_set before place edited

  -- if no context has the path, the answer is `NoSuch`
  abbrev pub EditsIn : Option ℕ → List Context → Edit → Result ℕ EditFault → List Context → Type 0
  EditsIn None before edit answer after = (answer ≡ Err NoSuch) × (after ≡ before)
  EditsIn (Some place) before edit answer after = EditsAt place before edit answer after

  -- the first context that has the path is edited, and nothing else changes
  pub record EditsContext (before : State Context Words) (path : List ℕ) (edit : Edit) (effect : Effect Context) (after : State Context Words) : Type 0 where
    pub answer : Result ℕ EditFault
    pub contexts : List Context
    pub edits : EditsIn (place_with before.world.contexts path) before.world.contexts edit answer contexts
    pub brings : effect ≡ editing answer
    pub is_after : after ≡ with_contexts contexts before
