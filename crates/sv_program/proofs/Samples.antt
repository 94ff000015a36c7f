-- The search for the place at which a value begins.
use Rattle.std.proofs.Common.{◌≡◌, ◌∙◌, ℕ, ◌+◌, ◌-◌, ◌<◌, ◌≤◌, Bool, true, false, List, [], ◌∷◌, ◌++◌, length, take, get_or, ap, sym, append_assoc, append-nil, ◌⊎◌, inl, inr, arith}
use Rattle.std.specs.Bool.{Decides}
use Rattle.std.proofs.lemmas.Bool.{cases_lt}
use Rattle.std.proofs.lemmas.List.{take_more}
use Rattle.sv_descriptor.specs.declared.fault.ValueStep.{ValueStep}
use Rattle.sv_program.specs.ValuePlace.{BeginsNowhere, CanBegin, are_both_taken, closer, closers, closers_of}

closers_join : (front back : List ValueStep) → closers_of (front ++ back) ≡ closers_of back ++ closers_of front
closers_join [] back = sym (append-nil (closers_of back))
closers_join (step ∷ rest) back = ap (λ t. t ++ closer step ∷ []) (closers_join rest back) ∙ append_assoc (closers_of back) (closers_of rest) (closer step ∷ [])

-- one more step
pub closers_more : (steps : List ValueStep) (i : ℕ) (step : ValueStep) (brackets next : List ℕ) → i < length steps → step ≡ get_or steps i step
    → brackets ≡ closers_of (take i steps) → next ≡ closer step ∷ brackets → next ≡ closers_of (take (i + 1) steps)
closers_more steps i step brackets next within is so_far more =
    more ∙ ap (λ t. closer step ∷ t) so_far
    ∙ sym (closers_join (take i steps) (step ∷ []))
    ∙ ap (λ last. closers_of (take i steps ++ last ∷ [])) is
    ∙ ap closers_of (sym (take_more steps i step within))

differs : false ≡ true → ⊥
differs h = cc

-- ---- the number of brackets
-- fewer of the brackets will not do
abbrev pub NoFewer : List ValueStep → List ℕ → ℕ → Type 0
NoFewer steps before below = (count : ℕ) → count < below → are_both_taken steps before (take count (closers steps)) ≡ false

pub one_bracket_more : (steps : List ValueStep) (before brackets : List ℕ) (count : ℕ) (taken : Bool) → brackets ≡ closers steps → NoFewer steps before count
    → taken ≡ are_both_taken steps before (take count brackets) → taken ≡ false → NoFewer steps before (count + 1)
one_bracket_more steps before brackets count taken same fewer is not at below = by (cases_lt at count)
  where
    by : (at < count) ⊎ (count ≤ at) → are_both_taken steps before (take at (closers steps)) ≡ false
    by (inl less) = fewer at less
    by (inr more) =
        let here : at ≡ count = omega (arith, more, below) in
        rw (here, ← same) (sym is ∙ not)

-- ---- the place
pub one_place_less : (text : List ℕ) (steps : List ValueStep) (at last : ℕ) (can : Bool) → Decides can (CanBegin text steps at) → can ≡ false
    → BeginsNowhere text steps at last → BeginsNowhere text steps (at - 1) last
one_place_less text steps at last can decides not nowhere place after within = by (cases_lt at place)
  where
    by : (at < place) ⊎ (place ≤ at) → CanBegin text steps place → ⊥
    by (inl above) = nowhere place above within
    by (inr below) =
        let here : place ≡ at = omega (arith, after, below) in
        λ begins. differs (sym not ∙ decides.1 (rw (← here) begins))
