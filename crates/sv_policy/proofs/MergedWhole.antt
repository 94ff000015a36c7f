-- A table with an entry for each named method and one for all others is complete.
use Rattle.std.proofs.lemmas.Bool.{false≢true}
use Rattle.std.proofs.Common.{subst, ◌≡◌, ℕ, ◌+◌, ◌<◌, ◌≤◌, Bool, true, false, ◌||◌, List, [], ◌∷◌, ◌++◌, length, take, get_or, map, refl, ap, sym, ◌∙◌, Option, Some, None, cond, Global}
use Rattle.std.specs.Borrow.{Bor}
use Rattle.std.specs.Prelude.{MatchOption, filter, is_some, unwrap_or}
use Rattle.std.specs.Option.{option_map}
use Rattle.std.specs.Str.{bytes_eq}
use Rattle.std.specs.declared.boxed.Box.{Box}
use Rattle.std.proofs.lemmas.List.Folds.{list_any-append}
use Rattle.std.proofs.lemmas.Slice.Eq.{bytes_eq-Decides}
use Rattle.sv_constraints.specs.Covering.{lists}
use Rattle.sv_constraints.specs.declared.constraint.Constraint.{Constraint}
use Rattle.sv_constraints.specs.declared.constraint.Rules.{Rules}
use Rattle.sv_policy.proofs.Steps.{gone_over, seen_more}
use Rattle.sv_policy.proofs.Named.{unnamed_members}
use Rattle.sv_policy.specs.Covering.{covers_at, named_methods}
use Rattle.sv_policy.specs.Merged.{IsMerged}
use Rattle.sv_policy.specs.declared.merged.Merged.{Merged}

-- The contents of boxes.
pub boxed_some : (found : Option (Box Merged Global)) → is_some (option_map (λ entry. entry.value) found) ≡ is_some found
boxed_some None = refl
boxed_some (Some entry) = refl

put_boxed : (found : Option (Box Merged Global)) (same : Bool) (entry : Box Merged Global) → option_map (λ kept. kept.value) (cond same (Some entry) found) ≡ cond same (Some entry.value) (option_map (λ kept. kept.value) found)
put_boxed found true entry = refl
put_boxed found false entry = refl

pub boxed_put : (found after : Option (Box Merged Global)) (same : Bool) (entry : Box Merged Global) (merged : Merged) → entry.value ≡ merged → after ≡ cond same (Some entry) found
    → option_map (λ kept. kept.value) after ≡ cond same (Some merged) (option_map (λ kept. kept.value) found)
boxed_put found after same entry merged is put =
    ap (option_map (λ kept. kept.value)) put ∙ put_boxed found same entry ∙ ap (λ m. cond same (Some m) (option_map (λ kept. kept.value) found)) is

-- Each of the names has an entry, and every entry is correct.
abbrev Entered : (List ℕ → Merged → Type 0) → (List ℕ → Option Merged) → List (List ℕ) → Type 0
Entered right get names = (method : List ℕ) → MatchOption (get method) (lists names method ≡ false) (right method)

module _ (right : List ℕ → Merged → Type 0) (get : List ℕ → Option Merged) (names : List (List ℕ)) (name : List ℕ) (entered : Entered right get names) where
  names_more : (method : List ℕ) (same : Bool) → lists names method ≡ false → same ≡ false → (lists names method || (same || false)) ≡ false
  names_more method same unnamed differs = ap (λ a. a || (same || false)) unnamed ∙ ap (λ b. b || false) differs

  put_at : (method : List ℕ) (same : Bool) (entry : Merged) → (same ≡ true → name ≡ method) → right name entry → (found : Option Merged) → MatchOption found (lists names method ≡ false) (right method) → MatchOption (cond same (Some entry) found) ((lists names method || (same || false)) ≡ false) (right method)
  put_at method true entry is fits found had = subst (λ q. right q entry) (is refl) fits
  put_at method false entry is fits None had = names_more method false had refl
  put_at method false entry is fits (Some held) had = had

  -- The entries after adding one.
  pub entered_put : (after : List ℕ → Option Merged) (entry : Merged) → right name entry → ((method : List ℕ) → after method ≡ cond (bytes_eq name method) (Some entry) (get method)) → Entered right after (names ++ name ∷ [])
  entered_put after entry fits updated = λ method.
      subst (λ found. MatchOption found (lists (names ++ name ∷ []) method ≡ false) (right method)) (sym (updated method))
      (subst (λ b. MatchOption (cond (bytes_eq name method) (Some entry) (get method)) (b ≡ false) (right method)) (sym (list_any-append (λ listed. bytes_eq listed method) names (name ∷ [])))
      (put_at method (bytes_eq name method) entry (λ same. (bytes_eq-Decides name method).0 same) fits (get method) (entered method)))

  keep_at : (method : List ℕ) (same : Bool) → (same ≡ true → name ≡ method) → is_some (get name) ≡ true → (found : Option Merged) → get method ≡ found → MatchOption found (lists names method ≡ false) (right method) → MatchOption found ((lists names method || (same || false)) ≡ false) (right method)
  keep_at method true is had None found entry = absurd (false≢true (sym (ap is_some found) ∙ ap (λ q. is_some (get q)) (sym (is refl)) ∙ had))
  keep_at method false is had None found entry = names_more method false entry refl
  keep_at method same is had (Some held) found entry = entry

  -- The entries after one more name that already has one.
  pub entered_kept : is_some (get name) ≡ true → Entered right get (names ++ name ∷ [])
  entered_kept had = λ method.
      subst (λ b. MatchOption (get method) (b ≡ false) (right method)) (sym (list_any-append (λ listed. bytes_eq listed method) names (name ∷ [])))
      (keep_at method (bytes_eq name method) (λ same. (bytes_eq-Decides name method).0 same) had (get method) refl (entered method))

-- The names of a loop and the next one.
pub entered_more : (right : List ℕ → Merged → Type 0) (get : List ℕ → Option Merged) (items : List (Bor (List ℕ))) (i : ℕ) (name : Bor (List ℕ)) → i < length items → name ≡ get_or items i name → Entered right get (map (λ n. n.now) (take i items) ++ name.now ∷ []) → Entered right get (map (λ n. n.now) (take (i + 1) items))
entered_more right get items i name within at_i entered =
    subst (Entered right get) (sym (seen_more (λ n. n.now) items i name within at_i)) entered

module _ (rules : Rules) (pattern : List ℕ) (members : List Constraint) (get : List ℕ → Option Merged) (rest : Merged) (rested : IsMerged rules (filter (λ member. covers_at member pattern None) members) rest) where
  abbrev right : List ℕ → Merged → Type 0
  right method merged = IsMerged rules (filter (λ member. covers_at member pattern (Some method)) members) merged

  entry_at : (method : List ℕ) (found : Option Merged) → MatchOption found (lists (named_methods members pattern) method ≡ false) (right method) → right method (unwrap_or found rest)
  entry_at method None unnamed = subst (λ covered. IsMerged rules covered rest) (unnamed_members pattern method members unnamed) rested
  entry_at method (Some entry) entered = entered

  -- With an entry for every named method and one for all others, every method has a correct entry.
  pub whole : (items : List (Bor (List ℕ))) (i : ℕ) → length items ≤ i → map (λ n. n.now) items ≡ named_methods members pattern → Entered right get (map (λ n. n.now) (take i items)) → (method : List ℕ) → right method (unwrap_or (get method) rest)
  whole items i ended named entered = λ method.
      entry_at method (get method) (subst (λ names. Entered right get names) (ap (map (λ n. n.now)) (gone_over items i ended) ∙ named) entered method)
