-- The attributes that dispatches set, from the innermost dispatch outward.
use Rattle.std.proofs.Common.{◌≡◌, ℕ, List, [], ◌∷◌, reverse, None, Some, ◌∙◌, ap}
use Rattle.std.specs.List.{IsLastAndRest}
use Rattle.std.specs.Option.{option_map_or}
use Rattle.std.proofs.lemmas.List.{reverse-append}
use Rattle.sv_exchange.specs.declared.dispatch.Dispatch.{Dispatch}
use Rattle.sv_exchange.specs.Attributes.{rest_of, told_by, told_innermost}
use Rattle.sv_exchange.specs.State.{State}

module _ (x : State) (name : List ℕ) (all outer : List Dispatch) (last : Dispatch) (split : IsLastAndRest all last outer) where
  reversed : reverse all ≡ last ∷ reverse outer
  reversed = ap reverse split.0 ∙ reverse-append outer (last ∷ [])

  innermost : told_innermost x name (reverse all) ≡ option_map_or (told_by last.kind last x) (rest_of last.kind name) (told_innermost x name (reverse outer))
  innermost = ap (told_innermost x name) reversed

  pub told_here : (rest : List ℕ) → rest_of last.kind name ≡ Some rest → told_innermost x name (reverse all) ≡ told_by last.kind last x rest
  told_here rest found = innermost ∙ ap (λ found. option_map_or (told_by last.kind last x) found (told_innermost x name (reverse outer))) found

  pub told_outside : rest_of last.kind name ≡ None → told_innermost x name (reverse all) ≡ told_innermost x name (reverse outer)
  told_outside found = innermost ∙ ap (λ found. option_map_or (told_by last.kind last x) found (told_innermost x name (reverse outer))) found
