-- The rows of each path are those of a meeting.
use Rattle.std.proofs.lemmas.Bool.{and_from, or_left, or_right}
use Rattle.std.proofs.lemmas.List.Folds.{list_any-append}
use Rattle.std.proofs.lemmas.List.Sums.{fold_more}
use Rattle.std.proofs.Common.{◌≡◌, ℕ, ◌+◌, ◌<◌, length, take, get_or, Bool, true, false, List, [], ◌∷◌, ◌++◌, refl, ap, sym, ◌∙◌, cond, inl, inr}
use Rattle.std.specs.Prelude.{fold}
use Rattle.std.specs.List.{list_any}
use Rattle.sv_audit.proofs.SamePatterns.{same_itself}
use Rattle.sv_mapping.proofs.Tried.{In, In-cases}
use Rattle.sv_difference.specs.Differences.{meeting_of, met, same_rows}
use Rattle.sv_difference.specs.declared.meetings.Meeting.{Meeting}

module _ (befores afters : List (List ℕ)) where
  abbrev meets : List ℕ → Meeting
  meets path = meeting_of befores afters path

  stays_at : (test : Meeting → Bool) (known : List Meeting) (path : List ℕ) (there : Bool) → list_any test known ≡ true → list_any test (cond there known (known ++ meets path ∷ [])) ≡ true
  stays_at test known path true some = some
  stays_at test known path false some = list_any-append test known (meets path ∷ []) ∙ or_left _ _ some

  stays : (test : Meeting → Bool) (paths : List (List ℕ)) (known : List Meeting) → list_any test known ≡ true → list_any test (fold (met befores afters) known paths) ≡ true
  stays test [] known some = some
  stays test (path ∷ paths) known some = stays test paths (met befores afters known path) (stays_at test known path (list_any (same_rows (meets path)) known) some)

  itself : (path : List ℕ) → same_rows (meets path) (meets path) ≡ true
  itself path = and_from _ _ (same_itself (meets path).before) (same_itself (meets path).after)

  here_at : (known : List Meeting) (path : List ℕ) (there : Bool) → list_any (same_rows (meets path)) known ≡ there → list_any (same_rows (meets path)) (cond there known (known ++ meets path ∷ [])) ≡ true
  here_at known path true is = is
  here_at known path false is = list_any-append (same_rows (meets path)) known (meets path ∷ []) ∙ or_right _ _ (or_left _ _ (itself path))

  -- One of the meetings has the rows of the path.
  pub path_met : (paths : List (List ℕ)) (known : List Meeting) (path : List ℕ) → In path paths → list_any (same_rows (meets path)) (fold (met befores afters) known paths) ≡ true
  path_met [] known path there = absurd there
  path_met (first ∷ paths) known path (inl same) =
      ap (λ one. list_any (same_rows (meets one)) (fold (met befores afters) (met befores afters known first) paths)) same
      ∙ stays (same_rows (meets first)) paths (met befores afters known first) (here_at known first (list_any (same_rows (meets first)) known) refl)
  path_met (first ∷ paths) known path (inr later) = path_met paths (met befores afters known first) path later

  -- What holds of the meeting of each path holds of all meetings.
  module _ (P : Meeting → Type 0) where
    one_more : (known : List Meeting) (path : List ℕ) (there : Bool) → ((x : Meeting) → In x known → P x) → P (meets path) → (x : Meeting) → In x (cond there known (known ++ meets path ∷ [])) → P x
    one_more known path true all here x is_in = all x is_in
    one_more known path false all here x is_in = elim (In-cases x known (meets path ∷ []) is_in) [ inl a ↦ all x a | inr b ↦ elim b [ inl same ↦ rw same here | inr none ↦ absurd none ] ]

    pub of_each : (paths : List (List ℕ)) (known : List Meeting) → ((x : Meeting) → In x known → P x) → ((path : List ℕ) → In path paths → P (meets path)) → (x : Meeting) → In x (fold (met befores afters) known paths) → P x
    of_each [] known all each x there = all x there
    of_each (path ∷ paths) known all each x there =
        of_each paths (met befores afters known path) (one_more known path (list_any (same_rows (meets path)) known) all (each path (inl refl))) (λ other later. each other (inr later)) x there

-- ---- The loop over paths.
pub met_next : (befores afters paths : List (List ℕ)) (i : ℕ) (item path : List ℕ) (known next : List Meeting) → i < length paths → item ≡ get_or paths i item → path ≡ item → known ≡ fold (met befores afters) [] (take i paths) → next ≡ met befores afters known path
    → next ≡ fold (met befores afters) [] (take (i + 1) paths)
met_next befores afters paths i item path known next within is same was makes =
    makes
    ∙ (ap (λ one. met befores afters one path) was ∙ (ap (met befores afters (fold (met befores afters) [] (take i paths))) (same ∙ is) ∙ sym (fold_more (met befores afters) [] paths i item within)))
