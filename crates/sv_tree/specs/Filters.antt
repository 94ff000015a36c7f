-- The filters of a dispatch (Jakarta Servlet 6.0, section 6.2).
use Rattle.std.specs.Prelude.{ℕ, Bool, List, [], ◌∷◌, Option, None, Some}
use Rattle.sv_component.specs.Call.{Entered, Left}
use Rattle.sv_component.specs.Runs.{OfFilter, Record}
use Rattle.sv_component.specs.declared.answers.Gate.{Gate}
use Rattle.sv_component.specs.declared.answers.Gate.TheVariants as gates
use Rattle.sv_tree.specs.Asking.{asks}
use Rattle.sv_tree.specs.Does.{Does, ◌>>=◌, ◌>>◌, becomes, choose, gives, refuses, sees}
use Rattle.sv_tree.specs.Endings.{fails, faults}
use Rattle.sv_tree.specs.Site.{Resource, Site}
use Rattle.sv_tree.specs.State.{Exchange, counted, is_full}
use Rattle.sv_tree.specs.declared.finished.DispatchFault.TheVariants.{DispatchLimit}
use Rattle.sv_tree.specs.declared.finished.Finished.{Finished}
use Rattle.sv_tree.specs.declared.finished.Finished.TheVariants.{Done}

abbrev pub before_of : ℕ → Exchange → Gate → Exchange → Record
before_of place before gate after = OfFilter place (Entered before gate after)

-- The flag says whether the call had enough memory.
abbrev pub after_of : ℕ → Exchange → Bool → Exchange → Record
after_of place before done after = OfFilter place (Left before done after)

-- A counted call, unless the request has used up its calls.
abbrev pub within_limit : {A : Type 0} → Does A → Does A → Does A
within_limit limit call = sees λ state. choose (is_full state) limit (becomes counted >> call)

-- The filters that passed, last first, and the outcome of the dispatch if a filter did not pass.
pub record Reached : Type 0 where
  pub passed : List ℕ
  pub ended : Option Finished

-- The dispatch ends at a filter, after those that passed.
abbrev pub ends_behind : List ℕ → Does Finished → Does Reached
ends_behind passed ending = do
  result ← ending
  gives record { passed = passed; ended = Some result }

module _ (site : Site) (resource : Resource) where
  -- The effect of a filter's result.
  abbrev pub Gated : List ℕ → Gate → Does Reached → Does Reached
  Gated passed gates.Pass next = next
  Gated passed gates.Stop next = ends_behind passed (gives Done)
  Gated passed (gates.Failed kind text) next = ends_behind passed (fails site resource kind text)
  Gated passed gates.NoMemory next = refuses

  -- Calls the filters in order, up to the first that does not pass.
  abbrev pub Befores : List ℕ → List ℕ → Does Reached
  Befores passed [] = gives record { passed = passed; ended = None }
  Befores passed (filter ∷ chain) = within_limit (ends_behind passed (faults site resource DispatchLimit)) do
    gate ← asks site.listeners (before_of filter)
    Gated passed gate (Befores (filter ∷ passed) chain)

-- Calls the filters that passed once more, last first, and notifies the listeners of the events of each call.
abbrev pub Afters : ℕ → List ℕ → Does (Unit {0})
Afters listeners [] = gives tt
Afters listeners (filter ∷ filters) = do
  done ← asks listeners (after_of filter)
  choose done (Afters listeners filters) refuses
