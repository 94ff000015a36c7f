-- Appending one place to a chain, and the proof that each place of a chain has a filter.
use Rattle.std.proofs.Common.{ℕ, ◌≡◌, ◌+◌, ◌<◌, Bool, true, false, not, ◌||◌, cond, eqb, List, [], ◌∷◌, ◌++◌, length, get_or, take, filter, Option, Some, None, IfSome, append-nil, sym, refl, ap, ◌∙◌, ⊎_elim}
use Rattle.std.specs.List.{All, flat_map}
use Rattle.std.specs.Option.{option_to_list}
use Rattle.std.proofs.lemmas.Bool.{cases_Bool, cond-true, cond-false, cond_both, eq-eqb, eqb-false, eqb-true, ne_eqb, not_from_true, not_from_false}
use Rattle.std.proofs.lemmas.List.{take_more}
use Rattle.std.proofs.lemmas.List.Elements.{All-nil, All-cons, All-head, All-tail, All-append, All-filter, filter-append}
use Rattle.sv_descriptor.specs.declared.filter.FilterEntry.{FilterEntry}
use Rattle.sv_descriptor.specs.declared.filter.FilterMapping.{FilterMapping}
use Rattle.sv_descriptor.specs.declared.web_app.WebApp.{WebApp}
use Rattle.sv_mapping.specs.declared.kind.Kind.{Kind}
use Rattle.sv_mapping.proofs.FirstBest.{position_within}
use Rattle.sv_chain.specs.FilterChain.{filter_chain, filter_place, maps_path, maps_servlet, without_doubles}
use Rattle.sv_chain.specs.Laws.{stands}

-- The filter of a mapping.
abbrev filter_in : List FilterEntry → FilterMapping → List ℕ
filter_in filters mapping = option_to_list (filter_place filters mapping.filter_name)

-- ---- Places without duplicates
abbrev pub others : ℕ → List ℕ → List ℕ
others place places = filter (λ other. not (eqb other place)) places

-- Removing one place keeps all others.
pub stands-others : (x y : ℕ) → eqb x y ≡ false → (places : List ℕ) → stands y (others x places) ≡ stands y places
stands-others x y apart [] = refl
stands-others x y apart (place ∷ places) =
    let rest = stands-others x y apart places in
    ⊎_elim
    (λ same.
    let other : eqb place y ≡ false = ap (λ z. eqb z y) (eqb-true place x same) ∙ apart in
    ap (stands y) (cond-false _ _ _ (not_from_true _ same)) ∙ (rest ∙ rw other refl))
    (λ differs. ap (stands y) (cond-true _ _ _ (not_from_false _ differs)) ∙ ap (λ t. eqb place y || t) rest)
    (cases_Bool (eqb place x))

-- Appending one place.
pub without_doubles-push : (xs : List ℕ) (y : ℕ) → without_doubles (xs ++ y ∷ []) ≡ cond (stands y (without_doubles xs)) (without_doubles xs) (without_doubles xs ++ y ∷ [])
without_doubles-push [] y = refl
without_doubles-push (x ∷ xs) y =
    let rest = without_doubles-push xs y in
    let all = without_doubles xs in
    ⊎_elim
    (λ same.
    let gone : others x (y ∷ []) ≡ [] = cond-false _ _ _ (not_from_true _ (ap (λ z. eqb y z) (eqb-true x y same) ∙ eqb-self y)) in
    let kept : others x (cond (stands y all) all (all ++ y ∷ [])) ≡ others x all = cond_both (stands y all) all (all ++ y ∷ []) (λ places. others x places ≡ others x all) (λ _. refl) (λ _. filter-append _ all (y ∷ []) ∙ (ap (λ places. others x all ++ places) gone ∙ append-nil _)) in
    ap (λ places. x ∷ others x places) rest ∙ (ap (λ places. x ∷ places) kept ∙ rw same refl))
    (λ apart.
    let here : others x (y ∷ []) ≡ y ∷ [] = cond-true _ _ _ (not_from_false _ (eqb-turned x y apart)) in
    ap (λ places. x ∷ others x places) rest
    ∙ (pushed x y all (stands y all) here ∙ rw (apart, stands-others x y apart all) refl))
    (cases_Bool (eqb x y))
  where
    eqb-self : (n : ℕ) → eqb n n ≡ true
    eqb-self n = eq-eqb n n refl

    eqb-turned : (m n : ℕ) → eqb m n ≡ false → eqb n m ≡ false
    eqb-turned m n apart = ne_eqb n m (λ same. eqb-false m n apart (sym same))

    pushed : (m n : ℕ) (places : List ℕ) (found : Bool) → others m (n ∷ []) ≡ n ∷ [] → m ∷ others m (cond found places (places ++ n ∷ [])) ≡ cond found (m ∷ others m places) (m ∷ (others m places ++ n ∷ []))
    pushed m n places true here = refl
    pushed m n places false here = ap (λ rest. m ∷ rest) (filter-append _ places (n ∷ []) ∙ ap (λ rest. others m places ++ rest) here)

-- The next place of a list, if the chain has it already, and if it does not.
pub doubles-old : (places chain : List ℕ) (i : ℕ) → i < length places → chain ≡ without_doubles (take i places) → stands (get_or places i 0) chain ≡ true → chain ≡ without_doubles (take (i + 1) places)
doubles-old places chain i within before found =
    let place = get_or places i 0 in
    sym (ap without_doubles (take_more places i 0 within) ∙ (without_doubles-push (take i places) place ∙ (ap (λ all. cond (stands place all) all (all ++ place ∷ [])) (sym before) ∙ cond-true _ _ _ found)))

pub doubles-new : (places chain : List ℕ) (i : ℕ) → i < length places → chain ≡ without_doubles (take i places) → stands (get_or places i 0) chain ≡ false → chain ++ get_or places i 0 ∷ [] ≡ without_doubles (take (i + 1) places)
doubles-new places chain i within before none =
    let place = get_or places i 0 in
    sym (ap without_doubles (take_more places i 0 within) ∙ (without_doubles-push (take i places) place ∙ (ap (λ all. cond (stands place all) all (all ++ place ∷ [])) (sym before) ∙ cond-false _ _ _ none)))

-- ---- Each place has a filter
abbrev IsPlace : List FilterEntry → ℕ → Type 0
IsPlace filters place = place < length filters

place_in : (filters : List FilterEntry) (found : Option ℕ) → IfSome found (IsPlace filters) → All (IsPlace filters) (option_to_list found)
place_in filters None within = All-nil (IsPlace filters)
place_in filters (Some place) within = All-cons (IsPlace filters) place [] within (All-nil (IsPlace filters))

places_in : (filters : List FilterEntry) (mappings : List FilterMapping) → All (IsPlace filters) (flat_map (filter_in filters) mappings)
places_in filters [] = All-nil (IsPlace filters)
places_in filters (mapping ∷ mappings) =
    All-append (IsPlace filters) (filter_in filters mapping) (flat_map (filter_in filters) mappings)
    (place_in filters (filter_place filters mapping.filter_name) (position_within _ filters)) (places_in filters mappings)

once_in : (filters : List FilterEntry) (places : List ℕ) → All (IsPlace filters) places → All (IsPlace filters) (without_doubles places)
once_in filters [] all = All-nil (IsPlace filters)
once_in filters (place ∷ places) all =
    All-cons (IsPlace filters) place (others place (without_doubles places)) (All-head (IsPlace filters) place places all)
    (All-filter _ (IsPlace filters) (without_doubles places) (once_in filters places (All-tail (IsPlace filters) place places all)))

pub chain_in : (app : WebApp) (path servlet : List ℕ) (kind : Kind) → All (λ place. place < length app.filters) (filter_chain app path servlet kind)
chain_in app path servlet kind =
    let by_path = filter (maps_path kind path) app.filter_mappings in
    let by_servlet = filter (maps_servlet kind servlet) app.filter_mappings in
    once_in app.filters (flat_map (filter_in app.filters) by_path ++ flat_map (filter_in app.filters) by_servlet)
    (All-append (IsPlace app.filters) (flat_map (filter_in app.filters) by_path) (flat_map (filter_in app.filters) by_servlet) (places_in app.filters by_path) (places_in app.filters by_servlet))
