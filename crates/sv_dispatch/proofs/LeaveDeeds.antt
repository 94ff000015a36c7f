-- A dispatch that began can end.
use Rattle.std.specs.Prelude.{length}
use Rattle.std.proofs.Common.{◌≡◌, inl, inr, ℕ, ◌+◌, ◌<◌, List, [], ◌∷◌, ◌++◌, Some, refl, sym, ap, ◌∙◌, arith}
use Rattle.std.proofs.lemmas.List.{length-append}
use Rattle.sv_component.specs.Runs.{Record}
use Rattle.sv_dispatch.specs.Did.{Frame}
use Rattle.sv_mapping.specs.declared.kind.Kind.{Kind}
use Rattle.sv_tree.specs.Does.{tries}
use Rattle.sv_tree.specs.Site.{Chosen, Site, begun, begun_by, chosen}
use Rattle.sv_tree.specs.State.{State, on_exchange}
use Rattle.sv_tree.specs.Tree.{Tree, Within}
use Rattle.sv_tree.specs.declared.finished.Finished.{Finished}
use Rattle.sv_tree.proofs.Changing.{begun_dispatches}
use Rattle.sv_tree.proofs.Doing.{absurd_result}
use Rattle.sv_tree.proofs.Nesting.{within_shows}
use Rattle.sv_uri.specs.declared.path.Canon.{Canon}
use Rattle.sv_dispatch.proofs.Deeds.{Makes, did_by}

module _ {M : Type 0} (state : M → State) (frame : M → Frame) (ran : M → List Record → M → Type 0) (site : Site) (room : ℕ) (kind : Kind) (canon : Canon) where
  some_in : {A : Type 0} (xs ys : List A) (y : A) → ys ≡ xs ++ y ∷ [] → 0 < length ys
  some_in xs ys y e = let longer : length ys ≡ length xs + 1 = ap length e ∙ length-append xs (y ∷ []) in omega (arith, longer)

  begun_state : (x y : State) (r : List Record) → tries (on_exchange (begun site kind canon)) x r y (Some tt) → y ≡ on_exchange (begun site kind canon) x
  begun_state x y r h = elim h.1 [ inl done ↦ done.0 | inr not ↦ absurd_result tt (sym not.1) ]

  pub can_leave : (found : Chosen) (finished : Finished) (a b c : M) → found ≡ chosen site canon.path
      → Makes state frame ran (tries (on_exchange (begun_by found kind canon))) a b (Some tt)
      → Makes state frame ran (Within site room (Tree site room) found.resource kind canon) b c (Some finished)
      → 0 < length (state c).exchange.dispatches
  can_leave found finished a b c is enters within =
      let begins = did_by state frame ran (λ found. tries (on_exchange (begun_by found kind canon))) found (chosen site canon.path) a b (Some tt) is enters in
      let inside = did_by state frame ran (λ found. Within site room (Tree site room) found.resource kind canon) found (chosen site canon.path) b c (Some finished) is within in
      let began = ap (λ s. s.exchange.dispatches) (begun_state (state a) (state b) begins.made begins.does_so) in
      let same = (within_shows site room kind canon (state b) (state c) inside.made (Some finished) inside.does_so refl).dispatches in
      some_in (state a).exchange.dispatches (state c).exchange.dispatches _ (same ∙ began ∙ begun_dispatches site kind canon (state a).exchange)
