-- The order of the filters in a chain.
use Rattle.std.proofs.Common.{ℕ, ◌≡◌, ◌≢◌, ◌+◌, ◌<◌, ◌≤◌, Bool, true, false, not, ◌&&◌, ◌||◌, eqb, ltb, inl, inr, List, [], ◌∷◌, ◌++◌, length, filter, Option, None, Some, refl, sym, ap, subst, zero-add, ◌∙◌, ◌⊎◌, arith}
use Rattle.std.specs.List.{All, AllPairs, list_any, flat_map, position_or_len, slice_index_or}
use Rattle.std.specs.Option.{option_to_list}
use Rattle.std.proofs.lemmas.Bool.{cases_Bool, cond-true, cond-false, eq-eqb, eqb-false, ltb-false, ltb-true, ne_eqb, not-true, or_parts}
use Rattle.std.proofs.lemmas.List.Elements.{All-weaker, filter_passes}
use Rattle.std.proofs.lemmas.List.Kept.{AllPairs-cons, AllPairs-filter}
use Rattle.sv_descriptor.specs.declared.filter.FilterMapping.{FilterMapping}
use Rattle.sv_descriptor.specs.declared.web_app.WebApp.{WebApp}
use Rattle.sv_mapping.specs.declared.kind.Kind.{Kind}
use Rattle.sv_chain.specs.FilterChain.{filter_chain, filter_place, filters_of, maps_path, maps_servlet, without_doubles}
use Rattle.sv_chain.specs.Laws.{GoesBefore, is_mapping_of, stands}
use Rattle.sv_chain.proofs.Growing.{others}
use Rattle.sv_chain.proofs.Membership.{stands-filters}

-- The index of the first item that passes.
first_here : (A : Type 0) (test : A → Bool) (x : A) (xs : List A) → test x ≡ true → position_or_len test (x ∷ xs) ≡ 0
first_here A test x xs passes = cond-false _ _ _ (ap not passes)

first_later : (A : Type 0) (test : A → Bool) (x : A) (xs : List A) → test x ≡ false → position_or_len test (x ∷ xs) ≡ 1 + position_or_len test xs
first_later A test x xs fails = cond-true _ _ _ (ap not fails)

none_behind : (A : Type 0) (test : A → Bool) (xs : List A) → list_any test xs ≡ false → position_or_len test xs ≡ length xs
none_behind A test [] none = refl
none_behind A test (x ∷ xs) none =
    let parts = or_parts (test x) (list_any test xs) none in
    omega (arith, first_later A test x xs parts.0, none_behind A test xs parts.1)

behind_none : (A : Type 0) (test : A → Bool) (xs : List A) → length xs ≤ position_or_len test xs → list_any test xs ≡ false
behind_none A test [] behind = refl
behind_none A test (x ∷ xs) behind = elim (cases_Bool (test x)) [
  | inl passes ↦ absurd (omega (arith, behind, first_here A test x xs passes))
  | inr fails ↦ rw fails (behind_none A test xs (omega (arith, behind, first_later A test x xs fails)))
]

-- The index of the first occurrence of a place in a list.
abbrev at : ℕ → List ℕ → ℕ
at place places = position_or_len (λ other. eqb other place) places

at_front : (place : ℕ) (xs ys : List ℕ) → at place xs < length xs → at place (xs ++ ys) ≡ at place xs
at_front place [] ys within = absurd (omega (arith, within))
at_front place (x ∷ xs) ys within = elim (cases_Bool (eqb x place)) [
  | inl here ↦ first_here ℕ (λ other. eqb other place) x (xs ++ ys) here ∙ sym (first_here ℕ (λ other. eqb other place) x xs here)
  | inr apart ↦
      let now = first_later ℕ (λ other. eqb other place) x xs apart in
      first_later ℕ (λ other. eqb other place) x (xs ++ ys) apart ∙ (ap (λ n. 1 + n) (at_front place xs ys (omega (arith, within, now))) ∙ sym now)
]

at_back : (place : ℕ) (xs ys : List ℕ) → length xs ≤ at place xs → at place (xs ++ ys) ≡ length xs + at place ys
at_back place [] ys beyond = sym (zero-add _)
at_back place (x ∷ xs) ys beyond = elim (cases_Bool (eqb x place)) [
  | inl here ↦ absurd (omega (arith, beyond, first_here ℕ (λ other. eqb other place) x xs here))
  | inr apart ↦
      let rest = at_back place xs ys (omega (arith, beyond, first_later ℕ (λ other. eqb other place) x xs apart)) in
      omega (arith, first_later ℕ (λ other. eqb other place) x (xs ++ ys) apart, rest)
]

-- Removing duplicates keeps the order of first occurrences.
pub once_in_order : (places : List ℕ) → AllPairs (λ a b. at a places < at b places) (without_doubles places)
once_in_order [] = λ i j d before within. absurd (omega (arith, within))
once_in_order (x ∷ places) =
    let all = without_doubles places in
    let rest = others x all in
    let apart : All (λ y. eqb x y ≡ false) rest = All-weaker (λ y. not (eqb y x) ≡ true) (λ y. eqb x y ≡ false) (λ y other. turned y (not-true _ other)) rest (filter_passes (λ y. not (eqb y x)) all) in
    let pairs = AllPairs-filter (λ a b. at a places < at b places) (λ y. not (eqb y x)) all (once_in_order places) in
    AllPairs-cons (λ a b. at a (x ∷ places) < at b (x ∷ places)) x rest
    (λ k d within. omega (arith, first_here ℕ (λ other. eqb other x) x places (eq-eqb x x refl), later (slice_index_or rest k d) (apart k d within)))
    (λ i j d before within.
    omega (arith, pairs i j d before within, later (slice_index_or rest i d) (apart i d (omega (arith, before, within))), later (slice_index_or rest j d) (apart j d within)))
  where
    turned : (y : ℕ) → eqb y x ≡ false → eqb x y ≡ false
    turned y other = ne_eqb x y (λ same. eqb-false y x other (sym same))

    later : (y : ℕ) → eqb x y ≡ false → at y (x ∷ places) ≡ 1 + at y places
    later y other = first_later ℕ (λ other. eqb other y) x places other

-- The first mapping of a filter that passes the test.
abbrev first_of : WebApp → (FilterMapping → Bool) → ℕ → List FilterMapping → ℕ
first_of app test place mappings = position_or_len (λ mapping. is_mapping_of app place mapping && test mapping) mappings

seen : (found : Option ℕ) → (found ≡ None) ⊎ ((place : ℕ) × (found ≡ Some place))
seen None = inl refl
seen (Some place) = inr (place, refl)

-- If one filter occurs before another, its first mapping precedes the other's.
filters_in_order : (app : WebApp) (test : FilterMapping → Bool) (p q : ℕ) (mappings : List FilterMapping)
    → at p (filters_of app.filters test mappings) < at q (filters_of app.filters test mappings) → first_of app test p mappings < first_of app test q mappings
filters_in_order app test p q [] before = absurd (omega (arith, before))
filters_in_order app test p q (mapping ∷ mappings) before =
    let all = flat_map (λ (m : FilterMapping). option_to_list (filter_place app.filters m.filter_name)) in
    let rest = filters_of app.filters test mappings in
    let found = filter_place app.filters mapping.filter_name in
    let inner = filters_in_order app test p q mappings in
    elim (cases_Bool (test mapping)) [
      | inr fails ↦
          let same : filters_of app.filters test (mapping ∷ mappings) ≡ rest = ap all (cond-false _ (mapping ∷ filter test mappings) (filter test mappings) fails) in
          skipped inner (λ place. rw fails (gone (is_mapping_of app place mapping))) (rw same at before)
      | inl passes ↦
          let split : filters_of app.filters test (mapping ∷ mappings) ≡ option_to_list found ++ rest = ap all (cond-true _ (mapping ∷ filter test mappings) (filter test mappings) passes) in
          elim (seen found) [
            | inl none ↦
                let same : filters_of app.filters test (mapping ∷ mappings) ≡ rest = split ∙ ap (λ o. option_to_list o ++ rest) none in
                skipped inner (λ place. ap (λ o. stands place (option_to_list o) && test mapping) none) (rw same at before)
            | inr some ↦
                let same : filters_of app.filters test (mapping ∷ mappings) ≡ some.0 ∷ rest = split ∙ ap (λ o. option_to_list o ++ rest) some.1 in
                let its : (place : ℕ) → (is_mapping_of app place mapping && test mapping) ≡ eqb some.0 place = λ place. ap (λ o. stands place (option_to_list o) && test mapping) some.1 ∙ rw passes (plain (eqb some.0 place)) in
                entered inner some.0 its (rw same at before)
          ]
    ]
  where
    gone : (a : Bool) → (a && false) ≡ false
    gone true = refl
    gone false = refl

    plain : (a : Bool) → ((a || false) && true) ≡ a
    plain true = refl
    plain false = refl

    later : (place : ℕ) → (is_mapping_of app place mapping && test mapping) ≡ false → first_of app test place (mapping ∷ mappings) ≡ 1 + first_of app test place mappings
    later place fails = first_later FilterMapping (λ m. is_mapping_of app place m && test m) mapping mappings fails

    skipped : (at p (filters_of app.filters test mappings) < at q (filters_of app.filters test mappings) → first_of app test p mappings < first_of app test q mappings) → ((place : ℕ) → (is_mapping_of app place mapping && test mapping) ≡ false) → at p (filters_of app.filters test mappings) < at q (filters_of app.filters test mappings) → first_of app test p (mapping ∷ mappings) < first_of app test q (mapping ∷ mappings)
    skipped inner fails less = omega (arith, later p (fails p), later q (fails q), inner less)

    entered : (at p (filters_of app.filters test mappings) < at q (filters_of app.filters test mappings) → first_of app test p mappings < first_of app test q mappings) → (r : ℕ) → ((place : ℕ) → (is_mapping_of app place mapping && test mapping) ≡ eqb r place) → at p (r ∷ filters_of app.filters test mappings) < at q (r ∷ filters_of app.filters test mappings) → first_of app test p (mapping ∷ mappings) < first_of app test q (mapping ∷ mappings)
    entered inner r its less =
        let rest = filters_of app.filters test mappings in
        elim (cases_Bool (eqb r q)) [
          | inl same_q ↦ absurd (omega (arith, less, first_here ℕ (λ other. eqb other q) r rest same_q))
          | inr other_q ↦
              let next_q = later q (its q ∙ other_q) in
              elim (cases_Bool (eqb r p)) [
                | inl same_p ↦ omega (arith, next_q, first_here FilterMapping (λ m. is_mapping_of app p m && test m) mapping mappings (its p ∙ same_p))
                | inr other_p ↦
                    let behind : at p rest < at q rest = omega (arith, less, first_later ℕ (λ other. eqb other p) r rest other_p, first_later ℕ (λ other. eqb other q) r rest other_q) in
                    omega (arith, next_q, later p (its p ∙ other_p), inner behind)
              ]
        ]

-- A filter that is not among those of the mappings has no mapping that passes the test.
unmapped : (app : WebApp) (test : FilterMapping → Bool) (place : ℕ) (mappings : List FilterMapping)
    → length (filters_of app.filters test mappings) ≤ at place (filters_of app.filters test mappings) → first_of app test place mappings ≡ length mappings
unmapped app test place mappings beyond =
    none_behind FilterMapping (λ mapping. is_mapping_of app place mapping && test mapping) mappings
    (sym (stands-filters app test place mappings) ∙ behind_none ℕ (λ other. eqb other place) (filters_of app.filters test mappings) beyond)

-- Of two filters of a chain, the one that occurs first goes before the other.
ordered : (app : WebApp) (path servlet : List ℕ) (kind : Kind) (front back : List ℕ) → front ≡ filters_of app.filters (maps_path kind path) app.filter_mappings
    → back ≡ filters_of app.filters (maps_servlet kind servlet) app.filter_mappings → (p q : ℕ) → at p (front ++ back) < at q (front ++ back) → GoesBefore app path servlet kind p q
ordered app path servlet kind front back its_front its_back p q less = elim (cases_Bool (ltb (at p front) (length front))) [
  | inl within_p ↦ inl (by_path (elim (cases_Bool (ltb (at q front) (length front))) [
    | inl within_q ↦ omega (arith, less, at_front p front back (ltb-true _ _ within_p), at_front q front back (ltb-true _ _ within_q))
    | inr beyond_q ↦ omega (arith, ltb-true _ _ within_p, ltb-false _ _ beyond_q)
  ]))
  | inr beyond_p ↦
      let behind = ltb-false _ _ beyond_p in
      elim (cases_Bool (ltb (at q front) (length front))) [
        | inl within_q ↦ absurd (omega (arith, less, at_back p front back behind, at_front q front back (ltb-true _ _ within_q), ltb-true _ _ within_q))
        | inr beyond_q ↦
            let outside = ltb-false _ _ beyond_q in
            inr (none p behind ∙ sym (none q outside), by_servlet (omega (arith, less, at_back p front back behind, at_back q front back outside)))
      ]
]
  where
    by_path : at p front < at q front → first_of app (maps_path kind path) p app.filter_mappings < first_of app (maps_path kind path) q app.filter_mappings
    by_path before = filters_in_order app (maps_path kind path) p q app.filter_mappings (subst (λ all. at p all < at q all) its_front before)

    by_servlet : at p back < at q back → first_of app (maps_servlet kind servlet) p app.filter_mappings < first_of app (maps_servlet kind servlet) q app.filter_mappings
    by_servlet before = filters_in_order app (maps_servlet kind servlet) p q app.filter_mappings (subst (λ all. at p all < at q all) its_back before)

    none : (place : ℕ) → length front ≤ at place front → first_of app (maps_path kind path) place app.filter_mappings ≡ length app.filter_mappings
    none place beyond = unmapped app (maps_path kind path) place app.filter_mappings (subst (λ all. length all ≤ at place all) its_front beyond)

pub chain_in_order : (app : WebApp) (path servlet : List ℕ) (kind : Kind) → AllPairs (GoesBefore app path servlet kind) (filter_chain app path servlet kind)
chain_in_order app path servlet kind = λ i j d before within.
    let chain = filter_chain app path servlet kind in
    let front = filters_of app.filters (maps_path kind path) app.filter_mappings in
    let back = filters_of app.filters (maps_servlet kind servlet) app.filter_mappings in
    ordered app path servlet kind front back refl refl (slice_index_or chain i d) (slice_index_or chain j d) (once_in_order (front ++ back) i j d before within)

pub chain_once : (app : WebApp) (path servlet : List ℕ) (kind : Kind) → AllPairs (λ place other. place ≢ other) (filter_chain app path servlet kind)
chain_once app path servlet kind = λ i j d before within same.
    let all = filters_of app.filters (maps_path kind path) app.filter_mappings ++ filters_of app.filters (maps_servlet kind servlet) app.filter_mappings in
    omega (arith, once_in_order all i j d before within, ap (λ place. at place all) same)
