-- The filters that are in a chain.
use Rattle.std.proofs.Common.{ℕ, ◌≡◌, Bool, true, false, ◌&&◌, ◌||◌, eqb, inl, inr, List, [], ◌∷◌, ◌++◌, filter, refl, sym, ap, ◌∙◌}
use Rattle.std.specs.List.{list_any, flat_map}
use Rattle.std.specs.Option.{option_to_list}
use Rattle.std.proofs.lemmas.Bool.{cases_Bool, cond-true, cond-false, or_left}
use Rattle.std.proofs.lemmas.List.Folds.{list_any-append}
use Rattle.sv_descriptor.specs.declared.filter.FilterMapping.{FilterMapping}
use Rattle.sv_descriptor.specs.declared.web_app.WebApp.{WebApp}
use Rattle.sv_mapping.specs.declared.kind.Kind.{Kind}
use Rattle.sv_chain.specs.FilterChain.{filter_chain, filter_place, filters_of, maps_path, maps_servlet, without_doubles}
use Rattle.sv_chain.specs.Laws.{is_mapping_of, leads_to, stands}
use Rattle.sv_chain.proofs.Growing.{stands-others}

-- Removing duplicates loses no place.
stands-once : (place : ℕ) (places : List ℕ) → stands place (without_doubles places) ≡ stands place places
stands-once place [] = refl
stands-once place (x ∷ places) = elim (cases_Bool (eqb x place)) [
  | inl here ↦ or_left _ _ here ∙ sym (or_left _ _ here)
  | inr apart ↦ ap (λ t. eqb x place || t) (stands-others x place apart (without_doubles places) ∙ stands-once place places)
]

-- The filters of the mappings that pass a test.
pub stands-filters : (app : WebApp) (test : FilterMapping → Bool) (place : ℕ) (mappings : List FilterMapping)
    → stands place (filters_of app.filters test mappings) ≡ list_any (λ mapping. is_mapping_of app place mapping && test mapping) mappings
stands-filters app test place [] = refl
stands-filters app test place (mapping ∷ mappings) =
    let rest = stands-filters app test place mappings in
    let its = option_to_list (filter_place app.filters mapping.filter_name) in
    let all = flat_map (λ (m : FilterMapping). option_to_list (filter_place app.filters m.filter_name)) in
    elim (cases_Bool (test mapping)) [
      | inl passes ↦
          ap (λ ms. stands place (all ms)) (cond-true _ (mapping ∷ filter test mappings) (filter test mappings) passes)
          ∙ (list_any-append (λ other. eqb other place) its (filters_of app.filters test mappings)
          ∙ (ap (λ t. stands place its || t) rest ∙ rw passes (here (stands place its) _)))
      | inr fails ↦
          ap (λ ms. stands place (all ms)) (cond-false _ (mapping ∷ filter test mappings) (filter test mappings) fails)
          ∙ (rest ∙ rw fails (gone (stands place its) _))
    ]
  where
    here : (a b : Bool) → (a || b) ≡ ((a && true) || b)
    here true b = refl
    here false b = refl

    gone : (a b : Bool) → b ≡ ((a && false) || b)
    gone true b = refl
    gone false b = refl

-- Some item passes one of two tests exactly if some item passes the first or some item passes the second.
either : (A : Type 0) (a b c : A → Bool) (xs : List A)
    → (list_any (λ x. a x && b x) xs || list_any (λ x. a x && c x) xs) ≡ list_any (λ x. a x && (b x || c x)) xs
either A a b c [] = refl
either A a b c (x ∷ xs) = spread (a x) (b x) (c x) _ _ ∙ ap (λ t. (a x && (b x || c x)) || t) (either A a b c xs)
  where
    spread : (a b c r s : Bool) → (((a && b) || r) || ((a && c) || s)) ≡ ((a && (b || c)) || (r || s))
    spread false b c r s = refl
    spread true true c r s = refl
    spread true false true true s = refl
    spread true false true false s = refl
    spread true false false r s = refl

pub stands-mapped : (app : WebApp) (path servlet : List ℕ) (kind : Kind) (place : ℕ)
    → stands place (filter_chain app path servlet kind) ≡ list_any (λ mapping. is_mapping_of app place mapping && leads_to kind path servlet mapping) app.filter_mappings
stands-mapped app path servlet kind place =
    let by_path = filters_of app.filters (maps_path kind path) app.filter_mappings in
    let by_servlet = filters_of app.filters (maps_servlet kind servlet) app.filter_mappings in
    stands-once place (by_path ++ by_servlet)
    ∙ (list_any-append (λ other. eqb other place) by_path by_servlet
    ∙ (ap (λ t. t || stands place by_servlet) (stands-filters app (maps_path kind path) place app.filter_mappings)
    ∙ (ap (λ t. list_any (λ mapping. is_mapping_of app place mapping && maps_path kind path mapping) app.filter_mappings || t) (stands-filters app (maps_servlet kind servlet) place app.filter_mappings)
    ∙ either FilterMapping (is_mapping_of app place) (maps_path kind path) (maps_servlet kind servlet) app.filter_mappings)))
