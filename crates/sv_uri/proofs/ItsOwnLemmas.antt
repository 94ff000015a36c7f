-- A canonical path is its own canonical path.
use Rattle.std.proofs.Common.{ℕ, ◌≡◌, ◌<◌, true, false, not, ◌||◌, eqb, List, [], ◌∷◌, ◌++◌, map, length, length-append, ltb, Option, Some, None, Ok, append-nil, sym, refl, ap, subst, ◌∙◌, ⊎_elim, ◌⊎◌, inl, inr, arith}
use Rattle.std.specs.List.{All, AllPass, flat_map, last_or}
use Rattle.std.specs.Option.{option_map}
use Rattle.std.specs.Str.{byte}
use Rattle.std.proofs.lemmas.Bool.{cases_Bool, both_ways, cond-true, cond-false, cond_both, or_parts, not-true, not-false, eqb-true, not_from_false, or_from}
use Rattle.std.proofs.lemmas.List.{length-map}
use Rattle.std.proofs.lemmas.List.Elements.{All-nil, All-cons, All-head, All-tail, All-append, All-weaker, All-filter, filter-append, filter_passes}
use Rattle.std.proofs.lemmas.List.Folds.{list_any_none}
use Rattle.std.proofs.lemmas.List.Splits.{length-slice_split}
use Rattle.sv_text.specs.Faults.{first_or}
use Rattle.sv_uri.specs.declared.path.Canon.{Canon}
use Rattle.sv_uri.specs.Target.{before, behind, between_slashes, visible_query}
use Rattle.sv_uri.specs.Segment.{is_parent, name_of, segment_faults}
use Rattle.sv_uri.specs.DotSegments.{is_idle, removed_in_front, kept, remaining, climbs, ends_open, closing}
use Rattle.sv_uri.specs.Canonical.{canonical, target_faults, path_text, raw_segments, begins_with_slash}
use Rattle.sv_uri.specs.Laws.{CanonicalIsItsOwn, is_literal}
use Rattle.sv_uri.proofs.AnswerLemmas.{answered}
use Rattle.sv_uri.proofs.TargetLemmas.{holds, slashed, before_none, behind_none, none_in_names, between_slashes-slashed, raw_segments-slash}
use Rattle.sv_uri.proofs.SegmentLemmas.{IsPlain, IsPlain-nil, All-IsPlain, append_none, when_none, name_of_literal, faultless_literal}
use Rattle.sv_uri.proofs.DotSegmentLemmas.{IsName, All-remaining, All-IsName-remaining, unremoved, last_or-push}

-- The segments of the canonical path: the remaining names, and an empty one if the path is left open.
abbrev pub parts_of : List (List ℕ) → List (List ℕ)
parts_of names = remaining (kept names) ++ closing names

-- A name that is kept is neither empty nor `.`.
abbrev pub IsKept : List ℕ → Type 0
IsKept name = not (is_idle name) ≡ true

pub all_kept : (names : List (List ℕ)) → All IsKept (remaining (kept names))
all_kept names = All-remaining IsKept (kept names) (filter_passes (λ name. not (is_idle name)) names)

kept_again : (names : List (List ℕ)) → All IsKept names → kept names ≡ names
kept_again [] all = refl
kept_again (name ∷ rest) all = cond-true _ _ _ (All-head IsKept name rest all) ∙ ap (λ xs. name ∷ xs) (kept_again rest (All-tail IsKept name rest all))

-- A kept name other than `..` closes the path.
closed : (o : Option (List ℕ)) (names : List (List ℕ)) → ends_open o ≡ false → All IsKept names → All IsName names → ends_open (last_or o names) ≡ false
closed o [] start all_k all_n = start
closed o (name ∷ rest) start all_k all_n =
    let neither = not-true _ (All-head IsKept name rest all_k) in
    closed (Some name) rest (or_from _ _ neither (All-head IsName name rest all_n)) (All-tail IsKept name rest all_k) (All-tail IsName name rest all_n)

pub closing_is : (names : List (List ℕ)) → (closing names ≡ [] ∷ []) ⊎ (closing names ≡ [])
closing_is names = ⊎_elim (λ yes. inl (cond-true _ _ _ yes)) (λ no. inr (cond-false _ _ _ no)) (cases_Bool (ends_open (last_or None names)))

-- The parts of a canonical path, taken as names, give the same parts.
pub parts_again : (names : List (List ℕ)) → (kept (parts_of names) ≡ remaining (kept names)) × (closing (parts_of names) ≡ closing names)
parts_again names =
    let left = remaining (kept names) in
    let once = kept_again left (all_kept names) in
    ⊎_elim
    (λ yes. rw yes (filter-append _ left ([] ∷ []) ∙ rw once (append-nil left), rw (last_or-push left None []) refl))
    (λ no. rw no (rw (append-nil left) once, rw (append-nil left) (cond-false _ _ _ (closed None left refl (all_kept names) (All-IsName-remaining (kept names))))))
    (closing_is names)

-- If the last segment is a name, some name remains.
left_some : (name : List ℕ) (rest : List (List ℕ)) → ends_open (last_or (Some name) rest) ≡ false → 0 < length (remaining (kept (name ∷ rest)))
left_some name [] ends =
    let tests : (is_idle name ≡ false) × (is_parent name ≡ false) = or_parts _ _ ends in
    let itself : kept (name ∷ []) ≡ name ∷ [] = cond-true _ _ _ (not_from_false _ tests.0) in
    let stays : remaining (name ∷ []) ≡ name ∷ [] = (unremoved (name ∷ []) (All-cons IsName name [] tests.1 (All-nil IsName))).1 in
    rw (itself, stays) (omega arith)
left_some name (next ∷ rest) ends =
    let behind_it = left_some next rest ends in
    cond_both (not (is_idle name)) (name ∷ kept (next ∷ rest)) (kept (next ∷ rest)) (λ names. 0 < length (remaining names))
    (λ _. cond_both (is_parent name || ltb 0 (removed_in_front (kept (next ∷ rest)))) _ (name ∷ remaining (kept (next ∷ rest))) (λ names. 0 < length names) (λ _. behind_it) (λ _. omega arith))
    (λ _. behind_it)

begins_some : (parts : List (List ℕ)) → 0 < length parts → begins_with_slash (slashed parts) ≡ true
begins_some [] some = absurd (omega arith)
begins_some (part ∷ parts) some = refl

pub begins : (names : List (List ℕ)) → 0 < length names → begins_with_slash (slashed (parts_of names)) ≡ true
begins [] some = absurd (omega arith)
begins (name ∷ rest) some =
    let left = remaining (kept (name ∷ rest)) in
    ⊎_elim
    (λ (yes : ends_open (last_or (Some name) rest) ≡ true). begins_some (left ++ closing (name ∷ rest)) (rw (cond-true _ _ _ yes, length-append left ([] ∷ [])) (omega arith)))
    (λ no.
    let some_left = left_some name rest no in
    begins_some (left ++ closing (name ∷ rest)) (rw (cond-false _ _ _ no, append-nil left) some_left))
    (cases_Bool (ends_open (last_or (Some name) rest)))

-- Plain names of literal bytes are segments without a fault that name themselves.
pub faultless_names : (names : List (List ℕ)) → All IsPlain names → All (λ name. holds (byte "%") name ≡ false) names → All (λ name. holds (byte ";") name ≡ false) names → (flat_map segment_faults names ≡ []) × (map name_of names ≡ names)
faultless_names [] plain percentless semicolonless = (refl, refl)
faultless_names (name ∷ rest) plain percentless semicolonless =
    let own = All-head IsPlain name rest plain in
    let no_percent = All-head (λ x. holds 37 x ≡ false) name rest percentless in
    let no_semicolon = All-head (λ x. holds 59 x ≡ false) name rest semicolonless in
    let behind_it = faultless_names rest (All-tail IsPlain name rest plain) (All-tail (λ x. holds 37 x ≡ false) name rest percentless) (All-tail (λ x. holds 59 x ≡ false) name rest semicolonless) in
    (rw (faultless_literal name own no_percent no_semicolon) behind_it.0, rw (name_of_literal name no_percent no_semicolon, behind_it.1) refl)

pub plain_parts : (names : List (List ℕ)) → All IsPlain names → All IsPlain (parts_of names)
plain_parts names plain =
    All-append IsPlain (remaining (kept names)) (closing names)
    (All-remaining IsPlain (kept names) (All-filter _ IsPlain names plain))
    (cond_both (ends_open (last_or None names)) ([] ∷ []) [] (All IsPlain) (λ _. All-cons IsPlain [] [] IsPlain-nil (All-nil IsPlain)) (λ _. All-nil IsPlain))

pub slashless : (names : List (List ℕ)) → All IsPlain names → All (λ name. holds (byte "/") name ≡ false) names
slashless names plain = All-weaker IsPlain (λ name. holds 47 name ≡ false) (λ name own. own.slash) names plain

-- A byte that is not literal does not occur in a literal path.
absent : (c : ℕ) (path : List ℕ) → is_literal c ≡ false → AllPass is_literal path → holds c path ≡ false
absent c path special literal = list_any_none (λ b. eqb b c) path (All-weaker (λ b. is_literal b ≡ true) (λ b. eqb b c ≡ false) (λ b own. ⊎_elim (λ it. absurd (both_ways (is_literal b) (ap is_literal (eqb-true b c it) ∙ special) own)) (λ other. other) (cases_Bool (eqb b c))) path literal)

canonical_from : (path : List ℕ) → target_faults path ≡ [] → path_text (raw_segments path) ≡ path → behind (byte "?") path ≡ None → canonical path ≡ Ok (record { path = path; query = None })
canonical_from path no_fault same_text no_query =
    ap (λ faults. first_or faults (record { path = path_text (raw_segments path); query = option_map visible_query (behind 63 path) })) no_fault
    ∙ ap (λ (text : List ℕ). Ok (record { path = text; query = option_map visible_query (behind 63 path) })) same_text
    ∙ ap (λ (query : Option (List ℕ)). Ok (record { path = path; query = option_map visible_query query })) no_query

path_again : (names : List (List ℕ)) → 0 < length names → All IsPlain names → AllPass is_literal (slashed (parts_of names)) → canonical (slashed (parts_of names)) ≡ Ok (record { path = slashed (parts_of names); query = None })
path_again names some plain literal =
    let parts = parts_of names in
    let path = slashed parts in
    let plain_all = plain_parts names plain in
    let no_query = absent 63 path refl literal in
    let segments : raw_segments path ≡ parts = rw (before_none 63 path no_query, between_slashes-slashed parts (slashless parts plain_all)) refl in
    let again = faultless_names parts plain_all (none_in_names 37 parts (absent 37 path refl literal)) (none_in_names 59 parts (absent 59 path refl literal)) in
    let same = parts_again names in
    let left = unremoved (remaining (kept names)) (All-IsName-remaining (kept names)) in
    let no_climb : climbs (kept (map name_of parts)) ≡ false = rw (again.1, same.0, left.0) refl in
    let no_fault : target_faults path ≡ [] = rw (absent 35 path refl literal, begins names some, segments, again.0, no_climb) refl in
    let same_text : path_text (raw_segments path) ≡ path = rw (segments, again.1, same.0, same.1, left.1) refl in
    canonical_from path no_fault same_text (behind_none 63 path no_query)

-- A target that begins with a slash has segments.
has_names : (target : List ℕ) → begins_with_slash target ≡ true → 0 < length (map name_of (raw_segments target))
has_names [] slash = cc
has_names (b ∷ relative) slash =
    let it = eqb-true b 47 slash in
    let count = length-slice_split (λ x. eqb x 47) (before 63 relative) in
    rw (it, raw_segments-slash relative, length-map (between_slashes (before 63 relative)) name_of, count) (omega arith)

-- A canonical path consists of the names of the target's segments, which are plain.
pub record IsMadeOf (names : List (List ℕ)) (path : List ℕ) : Type 0 where
  pub some : 0 < length names
  pub plain : All IsPlain names
  pub made : slashed (parts_of names) ≡ path

pub made_of_names : (target : List ℕ) (canon : Canon) → canonical target ≡ Ok canon → IsMadeOf (map name_of (raw_segments target)) canon.path
made_of_names target canon given =
    let (none, same) = answered (target_faults target) _ canon given in
    let outer = append_none _ _ none in
    let front = append_none _ _ outer.0 in
    let inner = append_none _ _ outer.1 in
    let slash = not-false _ (when_none _ _ front.1) in
    record {
      some = has_names target slash;
      plain = All-IsPlain (raw_segments target) inner.0;
      made = ap (λ (c : Canon). c.path) same;
    }

pub canonical_is_its_own : CanonicalIsItsOwn
canonical_is_its_own target canon given literal =
    let from = made_of_names target canon given in
    subst (λ (path : List ℕ). canonical path ≡ Ok (record { path = path; query = None })) from.made
    (path_again (map name_of (raw_segments target)) from.some from.plain (subst (AllPass is_literal) (sym from.made) literal))
