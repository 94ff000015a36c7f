-- Patterns paired with the indices of their servlets, and which of them matches best.
use Rattle.std.proofs.Common.{ℕ, ◌≡◌, ◌+◌, ◌<◌, ◌≤◌, inl, inr, Bool, true, not, cond, List, [], ◌∷◌, ◌++◌, length, map, get_or, take, find, Option, Some, None, nat_lt, zero, suc, length-append, refl, sym, ap, ◌∙◌, arith}
use Rattle.std.specs.List.{flat_map, position, position_or_len, slice_get}
use Rattle.std.specs.Option.{option_and_then}
use Rattle.std.proofs.lemmas.Bool.{and_parts, cases_Bool, cond-true, cond-false, cond_both, ltb-false}
use Rattle.std.proofs.lemmas.List.{append-nil, length-map, take_more}
use Rattle.std.proofs.lemmas.List.Concat.{flat_map-append}
use Rattle.std.proofs.lemmas.List.Quantifiers.{position-Some}
use Rattle.std.proofs.lemmas.Option.{none-some, same_Some}
use Rattle.sv_descriptor.specs.declared.servlet.ServletEntry.{ServletEntry}
use Rattle.sv_descriptor.specs.declared.servlet.ServletMapping.{ServletMapping}
use Rattle.sv_descriptor.specs.declared.web_app.WebApp.{WebApp}
use Rattle.sv_mapping.specs.BestMatch.{best, is_best}
use Rattle.sv_mapping.specs.Pattern.{matches}
use Rattle.sv_mapping.specs.Split.{path_info, servlet_path}
use Rattle.sv_mapping.proofs.FirstBest.{get-position}
use Rattle.sv_tree.specs.Site.{Chosen, Mapping, chosen_by}
use Rattle.sv_tree.specs.declared.site.Resource.TheVariants.{Servlet}
use Rattle.sv_tree.specs.ServletMappings.{beside, mappings_of, patterns_of, places_beside, servlet_place}

abbrev pub texts_of : List Mapping → List (List ℕ)
texts_of mappings = map (λ mapping. mapping.pattern) mappings

pub texts-beside : (patterns : List (List ℕ)) (servlets : List ℕ) → length servlets ≡ length patterns → texts_of (beside patterns servlets) ≡ patterns
texts-beside [] servlets same = refl
texts-beside (pattern ∷ patterns) [] same = absurd (omega (arith, same))
texts-beside (pattern ∷ patterns) (servlet ∷ servlets) same = ap (λ texts. pattern ∷ texts) (texts-beside patterns servlets (omega (arith, same)))

pub beside-at : (patterns : List (List ℕ)) (servlets : List ℕ) (place : ℕ) (d : List ℕ) (e : ℕ) → length servlets ≡ length patterns → place < length patterns
    → slice_get (beside patterns servlets) place ≡ Some (record { pattern = get_or patterns place d; servlet = get_or servlets place e })
beside-at [] servlets place d e same within = absurd (omega (arith, within))
beside-at (pattern ∷ patterns) [] place d e same within = absurd (omega (arith, same))
beside-at (pattern ∷ patterns) (servlet ∷ servlets) zero d e same within = refl
beside-at (pattern ∷ patterns) (servlet ∷ servlets) (suc place) d e same within = beside-at patterns servlets place d e (omega (arith, same)) (omega (arith, within))

-- The index of the first pattern that passes a test is that of the first text that passes.
position_or_len-texts : (test : List ℕ → Bool) (mappings : List Mapping) → position_or_len (λ mapping. test mapping.pattern) mappings ≡ position_or_len test (texts_of mappings)
position_or_len-texts test [] = refl
position_or_len-texts test (mapping ∷ mappings) = ap (λ n. cond (not (test mapping.pattern)) (1 + n) 0) (position_or_len-texts test mappings)

position-texts : (test : List ℕ → Bool) (mappings : List Mapping) → position (λ mapping. test mapping.pattern) mappings ≡ position test (texts_of mappings)
position-texts test mappings =
    ap (λ n. cond (nat_lt n (length mappings)) (Some n) None) (position_or_len-texts test mappings)
    ∙ ap (λ n. cond (nat_lt (position_or_len test (texts_of mappings)) n) (Some (position_or_len test (texts_of mappings))) None) (sym (length-map mappings (λ mapping. mapping.pattern)))

-- The pattern that matches best is that of the best match among the texts.
pub best-found : (mappings : List Mapping) (path : List ℕ) (found : Option ℕ) → found ≡ best (texts_of mappings) path
    → option_and_then (λ place. slice_get mappings place) found ≡ find (λ mapping. is_best (texts_of mappings) path mapping.pattern) mappings
best-found mappings path found is =
    ap (option_and_then (λ place. slice_get mappings place)) (is ∙ sym (position-texts (is_best (texts_of mappings) path) mappings))
    ∙ get-position (λ (mapping : Mapping). is_best (texts_of mappings) path mapping.pattern) mappings

-- The best match is one of the texts, and it matches.
pub best-matches : (texts : List (List ℕ)) (path : List ℕ) (place : ℕ) (d : List ℕ) → Some place ≡ best texts path → (place < length texts) × (matches (get_or texts place d) path ≡ true)
best-matches texts path place d is =
    let found = position-Some (is_best texts path) texts place d (sym is) in
    (found.0, (and_parts _ _ found.1).0)

-- The two lists, paired, are the descriptor's mappings.
beside-more : (patterns texts : List (List ℕ)) (servlet : ℕ) (servlets : List ℕ)
    → beside (texts ++ patterns) (map (λ text. servlet) texts ++ servlets) ≡ map (λ text. record { pattern = text; servlet = servlet }) texts ++ beside patterns servlets
beside-more patterns [] servlet servlets = refl
beside-more patterns (text ∷ texts) servlet servlets = ap (λ rest. record { pattern = text; servlet = servlet } ∷ rest) (beside-more patterns texts servlet servlets)

pub beside-mappings : (servlets : List ServletEntry) (mappings : List ServletMapping)
    → beside (flat_map (λ mapping. mapping.url_patterns) mappings) (flat_map (places_beside servlets) mappings) ≡ flat_map (patterns_of servlets) mappings
beside-mappings servlets [] = refl
beside-mappings servlets (mapping ∷ mappings) =
    beside-more (flat_map (λ (m : ServletMapping). m.url_patterns) mappings) mapping.url_patterns (servlet_place servlets mapping.servlet_name) (flat_map (places_beside servlets) mappings)
    ∙ ap (λ rest. patterns_of servlets mapping ++ rest) (beside-mappings servlets mappings)

pub beside-long : (servlets : List ServletEntry) (mappings : List ServletMapping)
    → length (flat_map (places_beside servlets) mappings) ≡ length (flat_map (λ mapping. mapping.url_patterns) mappings)
beside-long servlets [] = refl
beside-long servlets (mapping ∷ mappings) =
    let place = servlet_place servlets mapping.servlet_name in
    omega (
      arith,
      length-append (places_beside servlets mapping) (flat_map (places_beside servlets) mappings),
      length-append mapping.url_patterns (flat_map (λ (m : ServletMapping). m.url_patterns) mappings),
      length-map mapping.url_patterns (λ text. place),
      beside-long servlets mappings,
    )

-- The texts of the descriptor's mappings are all patterns of its servlets.
pub texts-mappings : (servlets : List ServletEntry) (mappings : List ServletMapping) → texts_of (flat_map (patterns_of servlets) mappings) ≡ flat_map (λ mapping. mapping.url_patterns) mappings
texts-mappings servlets mappings =
    ap texts_of (sym (beside-mappings servlets mappings))
    ∙ texts-beside (flat_map (λ (m : ServletMapping). m.url_patterns) mappings) (flat_map (places_beside servlets) mappings) (beside-long servlets mappings)

-- ---- The lists that the code collects
pub compiled-long : (servlets : List ServletEntry) (mappings : List ServletMapping) (patterns : List (List ℕ)) (places : List ℕ)
    → patterns ≡ flat_map (λ mapping. mapping.url_patterns) mappings → places ≡ flat_map (places_beside servlets) mappings → length places ≡ length patterns
compiled-long servlets mappings patterns places its_patterns its_places = ap length its_places ∙ (beside-long servlets mappings ∙ ap length (sym its_patterns))

pub compiled-is : (app : WebApp) (servlets : List ServletEntry) (mappings : List ServletMapping) (patterns : List (List ℕ)) (places : List ℕ)
    → servlets ≡ app.servlets → mappings ≡ app.servlet_mappings → patterns ≡ flat_map (λ mapping. mapping.url_patterns) mappings → places ≡ flat_map (places_beside servlets) mappings
    → beside patterns places ≡ mappings_of app
compiled-is app servlets mappings patterns places its_servlets its_mappings its_patterns its_places =
    ap (λ texts. beside texts places) its_patterns
    ∙ (ap (λ listed. beside (flat_map (λ (m : ServletMapping). m.url_patterns) mappings) listed) its_places
    ∙ (beside-mappings servlets mappings
    ∙ (ap (λ listed. flat_map (patterns_of listed) mappings) its_servlets ∙ ap (λ listed. flat_map (patterns_of app.servlets) listed) its_mappings)))

pub places-more : (servlets : List ServletEntry) (mappings : List ServletMapping) (i : ℕ) (mapping : ServletMapping) (before after : List ℕ) (place : ℕ)
    → i < length mappings → mapping ≡ get_or mappings i mapping → before ≡ flat_map (places_beside servlets) (take i mappings) → place ≡ servlet_place servlets mapping.servlet_name
    → after ≡ before ++ map (λ text. place) mapping.url_patterns → after ≡ flat_map (places_beside servlets) (take (i + 1) mappings)
places-more servlets mappings i mapping before after place within is so_far its more =
    more
    ∙ (ap (λ front. front ++ map (λ text. place) mapping.url_patterns) so_far
    ∙ (ap (λ n. flat_map (places_beside servlets) (take i mappings) ++ map (λ text. n) mapping.url_patterns) its
    ∙ (ap (λ m. flat_map (places_beside servlets) (take i mappings) ++ places_beside servlets m) is
    ∙ sym (ap (flat_map (places_beside servlets)) (take_more mappings i mapping within)
    ∙ (flat_map-append (places_beside servlets) (take i mappings) (get_or mappings i mapping ∷ [])
    ∙ ap (λ tail. flat_map (places_beside servlets) (take i mappings) ++ tail) (append-nil (places_beside servlets (get_or mappings i mapping))))))))

-- The index from `position_or_len` is the position, or the length if no item passes.
pub place-some : {A : Type 0} (test : A → Bool) (xs : List A) (place : ℕ) → position test xs ≡ Some place → place ≡ position_or_len test xs
place-some test xs place is = elim (cases_Bool (nat_lt (position_or_len test xs) (length xs))) [
  | inl below ↦ sym (same_Some _ place (sym (cond-true _ _ _ below) ∙ is))
  | inr outside ↦ absurd (none-some place (sym (cond-false _ _ _ outside) ∙ is))
]

none-within : {A : Type 0} (test : A → Bool) (xs : List A) → position_or_len test xs ≤ length xs
none-within test [] = omega arith
none-within test (x ∷ xs) = cond_both (not (test x)) (1 + position_or_len test xs) 0 (λ n. n ≤ length (x ∷ xs)) (λ fails. omega (arith, none-within test xs)) (λ passes. omega arith)

pub place-none : {A : Type 0} (test : A → Bool) (xs : List A) → position test xs ≡ None → length xs ≡ position_or_len test xs
place-none test xs is = elim (cases_Bool (nat_lt (position_or_len test xs) (length xs))) [
  | inl below ↦ absurd (none-some (position_or_len test xs) (sym is ∙ cond-true _ _ _ below))
  | inr outside ↦ omega (arith, ltb-false _ _ outside, none-within test xs)
]

-- ---- The chosen resource, from the lists at an index
pub chosen-at : (mappings : List Mapping) (patterns : List (List ℕ)) (servlets : List ℕ) (place : ℕ) (path pattern first : List ℕ) (servlet : ℕ) (info : Option (List ℕ))
    → beside patterns servlets ≡ mappings → length servlets ≡ length patterns → place < length patterns → pattern ≡ get_or patterns place pattern → servlet ≡ get_or servlets place servlet
    → first ≡ servlet_path pattern path → info ≡ path_info pattern path
    → ◌≡◌ {A = Chosen} (record { resource = Servlet servlet; servlet_path = first; path_info = info }) (chosen_by path (slice_get mappings place))
chosen-at mappings patterns servlets place path pattern first servlet info are same within its_pattern its_servlet its_first its_info =
    let there = beside-at patterns servlets place pattern servlet same within in
    let found = sym (ap (λ all. slice_get all place) are) ∙ (there
    ∙ (ap (λ text. Some (record { pattern = text; servlet = get_or servlets place servlet })) (sym its_pattern)
    ∙ ap (λ n. Some (record { pattern = pattern; servlet = n })) (sym its_servlet))) in
    ap (λ text. record { resource = Servlet servlet; servlet_path = text; path_info = info }) its_first
    ∙ (ap (λ rest. record { resource = Servlet servlet; servlet_path = servlet_path pattern path; path_info = rest }) its_info
    ∙ sym (ap (chosen_by path) found))
