-- The context paths of a container, which differ (Jakarta Servlet 6.0, section 12.1).
use Rattle.std.specs.Prelude.{◌≡◌, ℕ, ◌≤◌, true, false, List, [], ◌∷◌, ◌++◌, length, slice_get, Some}
use Rattle.sv_container.specs.declared.container.TheConstants.{MAX_CONTEXTS}
use Rattle.sv_journal.specs.declared.start_code.NewCode.{NewCode}
use Rattle.sv_journal.specs.declared.start_code.NewCode.TheVariants.{DuplicateContext, TooManyContexts, Start}
use Rattle.sv_journal.specs.declared.start_code.StartCode.TheVariants.{PartsMismatch, InitFailed, NoMemory}
use Rattle.sv_descriptor.specs.Names.{repeats}
use Rattle.sv_descriptor.specs.Table.{is_among}

-- the first path of a list that repeats an earlier one
pub record IsRepeatedFirst (paths : List (List ℕ)) (path : List ℕ) : Type 0 where
  pub front : List (List ℕ)
  pub rest : List (List ℕ)
  pub are : paths ≡ front ++ path ∷ rest
  pub differ : repeats front ≡ false
  pub repeated : is_among front path ≡ true

-- the paths that the contexts of a container may have
pub record ArePermitted (paths : List (List ℕ)) : Type 0 where
  pub differ : repeats paths ≡ false
  pub few : length paths ≤ MAX_CONTEXTS

-- a code refuses the context paths and names one of them: a repeated path takes precedence over one past the limit
abbrev pub Forbids : NewCode → List (List ℕ) → List ℕ → Type 0
Forbids DuplicateContext paths path = IsRepeatedFirst paths path
Forbids TooManyContexts paths path = (repeats paths ≡ false) × (slice_get paths MAX_CONTEXTS ≡ Some path)
Forbids (Start NoMemory) paths path = path ≡ []
Forbids (Start PartsMismatch) paths path = ⊥
Forbids (Start (InitFailed place)) paths path = ⊥
