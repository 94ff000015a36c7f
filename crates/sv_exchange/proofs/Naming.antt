-- The first parameter with a name in the queries of dispatches.
use Rattle.std.proofs.Common.{◌≡◌, ℕ, List, [], ◌∷◌, ◌++◌, reverse, None, Some, ◌∙◌, ap}
use Rattle.std.specs.List.{IsLastAndRest, flat_map}
use Rattle.std.proofs.lemmas.List.{reverse-append}
use Rattle.sv_message.proofs.Joining.{first_behind, first_in_front}
use Rattle.sv_message.specs.Parameters.{first_named}
use Rattle.sv_exchange.specs.declared.dispatch.Dispatch.{Dispatch}
use Rattle.sv_exchange.specs.Parameters.{dispatch_parameters}

module _ (name : List ℕ) (all outer : List Dispatch) (last : Dispatch) (split : IsLastAndRest all last outer) where
  innermost : first_named name (flat_map dispatch_parameters (reverse all)) ≡ first_named name (dispatch_parameters last ++ flat_map dispatch_parameters (reverse outer))
  innermost = ap (λ dispatches. first_named name (flat_map dispatch_parameters dispatches)) (ap reverse split.0 ∙ reverse-append outer (last ∷ []))

  pub named_here : (value : List ℕ) → first_named name (dispatch_parameters last) ≡ Some value → first_named name (flat_map dispatch_parameters (reverse all)) ≡ Some value
  named_here value found = innermost ∙ first_in_front name (dispatch_parameters last) (flat_map dispatch_parameters (reverse outer)) value found

  pub named_outside : first_named name (dispatch_parameters last) ≡ None
      → first_named name (flat_map dispatch_parameters (reverse all)) ≡ first_named name (flat_map dispatch_parameters (reverse outer))
  named_outside missed = innermost ∙ first_behind name (dispatch_parameters last) (flat_map dispatch_parameters (reverse outer)) missed
