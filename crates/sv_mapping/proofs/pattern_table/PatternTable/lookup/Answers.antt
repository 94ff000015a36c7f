use Rattle.std.proofs.Common.{◌≡◌, Bool, List, ltb, length, ◌∙◌, ap, arith, sym, inl, inr}
use Rattle.std.specs.List.{find, position, position_or_len, slice_get}
use Rattle.std.specs.Option.{option_and_then}
use Rattle.std.proofs.lemmas.Bool.{cases_Bool, ltb-false}
use Rattle.std.proofs.lemmas.List.Folds.{find_at}
use Rattle.std.proofs.lemmas.Option.{slice_get_past}
use Rattle.sv_mapping.specs.BestMatch.{best, is_best}
use Rattle.sv_mapping.proofs.Found.{segments_most}
use Rattle.sv_mapping.proofs.pattern_table.PatternTable.lookup.Goals as goal

-- The element at the first place that passes is the first element that passes.
get-position : {X : Type 0} (t : X → Bool) (xs : List X) → option_and_then (λ i. slice_get xs i) (position t xs) ≡ find t xs
get-position t xs =
    elim (cases_Bool (ltb (position_or_len t xs) (length xs))) [ inl e ↦ rw e (sym (find_at t xs)) | inr e ↦ rw e (sym (find_at t xs ∙ slice_get_past xs _ (ltb-false _ _ e))) ]

pub returns-clause-text : goal.returns-clause-text
returns-clause-text c =
    ap (option_and_then (λ place. slice_get c.args.self.now place)) (c.find.ensures.best _ c.self.invariant ∙ ap (λ patterns. best patterns c.args.path.now) c.self.view_is) ∙ get-position (is_best c.args.self.now c.args.path.now) c.args.self.now

pub returns-clause-probes : goal.returns-clause-probes
returns-clause-probes c = omega (arith, c.find.ensures.probes, segments_most c.args.path.now)
