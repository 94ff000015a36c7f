-- The texts tried for a path are all patterns that match it, in falling order of rank.
use Rattle.std.proofs.Common.{◌≡◌, ℕ, ◌<◌, true, false, List, [], ◌∷◌, ◌++◌, map, length, eqb, refl, sym, ◌∙◌, ap, append_assoc, arith, length-append, cond, Option, Some, None, inl, inr, ◌⊎◌}
use Rattle.std.specs.List.{ends_with}
use Rattle.std.specs.Option.{option_map_or, option_to_list}
use Rattle.std.specs.Str.{bytes_eq}
use Rattle.std.proofs.lemmas.Bool.{both_ways, cases_Bool, eqb-true, false_from_ne_true, lt-ltb, ne_eqb, or_cases, or_left, or_right}
use Rattle.std.proofs.lemmas.Bool.Decides.{Decides-eqb}
use Rattle.std.proofs.lemmas.Slice.Eq.{bytes_eq-Decides, ends_is, starts_is}
use Rattle.sv_mapping.specs.BestMatch.{outranks, rank}
use Rattle.sv_mapping.specs.MatchOrder.{exact_texts, extension_texts, fronts, prefix_texts, tried_texts}
use Rattle.sv_mapping.specs.Pattern.{Form, Root, Default, Extension, Prefix, Exact, extension, form, form_matches, form_text, is_at_or_below, matches}
use Rattle.sv_mapping.proofs.Texts.{form-exact, form-prefix, same_bytes, starts}
use Rattle.sv_mapping.proofs.Tried.{Falls, Falls-append, Falls-map, In, In-cases, In-left, In-map, In-map_from, In-right, TriesInOrder}
use Rattle.sv_mapping.proofs.Uniqueness.{exact_is_no_slash, form_text-form}

-- ---- prefixes of a path
abbrev Within : List ℕ → List ℕ → Type 0
Within front path = (path ≡ front) ⊎ ((rest : List ℕ) × (path ≡ front ++ 47 ∷ rest))

within_cases : (front path : List ℕ) → is_at_or_below front path ≡ true → Within front path
within_cases front path h =
    elim (or_cases _ _ h) [
      | inl whole ↦ inl (same_bytes path front whole)
      | inr below ↦ inr (_, (starts_is Decides-eqb path (front ++ 47 ∷ []) _ refl).0 below ∙ append_assoc front (47 ∷ []) _)
    ]

within_from : (front path : List ℕ) → Within front path → is_at_or_below front path ≡ true
within_from front path (inl whole) = or_left _ _ ((bytes_eq-Decides path front).1 whole)
within_from front path (inr below) = or_right _ _ (starts path (front ++ 47 ∷ []) below.0 (below.1 ∙ sym (append_assoc front (47 ∷ []) below.0)))

fronts_whole : (path : List ℕ) → In path (fronts path)
fronts_whole [] = inl refl
fronts_whole (b ∷ bs) = In-left (b ∷ bs) (map (λ front. b ∷ front) (fronts bs)) _ (In-map (λ front. b ∷ front) bs (fronts bs) (fronts_whole bs))

fronts_below : (front rest : List ℕ) → In front (fronts (front ++ 47 ∷ rest))
fronts_below [] rest = In-right [] (map (λ front. 47 ∷ front) (fronts rest)) ([] ∷ []) (inl refl)
fronts_below (b ∷ bs) rest = In-left (b ∷ bs) (map (λ front. b ∷ front) (fronts (bs ++ 47 ∷ rest))) _ (In-map (λ front. b ∷ front) bs (fronts (bs ++ 47 ∷ rest)) (fronts_below bs rest))

fronts_complete : (front path : List ℕ) → Within front path → In front (fronts path)
fronts_complete front path (inl whole) = rw whole (fronts_whole front)
fronts_complete front path (inr below) = rw below.1 (fronts_below front below.0)

-- The last front, before a first slash.
last_front : (b : ℕ) (front : List ℕ) → In front (cond (eqb b 47) ([] ∷ []) []) → (b ≡ 47) × (front ≡ [])
last_front b front h = go (cases_Bool (eqb b 47))
  where
    go : (eqb b 47 ≡ true) ⊎ (eqb b 47 ≡ false) → (b ≡ 47) × (front ≡ [])
    go (inl e) = elim (rw e at h) [ inl same ↦ (eqb-true b 47 e, same) | inr k ↦ absurd k ]
    go (inr e) = absurd (rw e at h)

fronts_sound : (front path : List ℕ) → In front (fronts path) → Within front path
fronts_sound front [] (inl e) = inl (sym e)
fronts_sound front [] (inr k) = absurd k
fronts_sound front (b ∷ bs) h =
    elim (In-cases front (map (λ f. b ∷ f) (fronts bs)) _ h) [
      | inl k ↦
          let from = In-map_from (λ f. b ∷ f) front (fronts bs) k in
          elim (fronts_sound from.0 bs from.1) [
            | inl whole ↦ inl (ap (λ f. b ∷ f) whole ∙ sym from.2)
            | inr below ↦ inr (below.0, ap (λ f. b ∷ f) below.1 ∙ ap (λ f. f ++ 47 ∷ below.0) (sym from.2))
          ]
      | inr k ↦ let last = last_front b front k in inr (bs, ap (λ c. c ∷ bs) last.0 ∙ ap (λ f. f ++ 47 ∷ bs) (sym last.1))
    ]

abbrev IsLonger : List ℕ → List ℕ → Type 0
IsLonger f g = length g < length f

fronts_fall : (path : List ℕ) → Falls IsLonger (fronts path)
fronts_fall [] = ((λ y h. absurd h), tt)
fronts_fall (b ∷ bs) =
    Falls-append IsLonger (map (λ f. b ∷ f) (fronts bs)) _
    (Falls-map IsLonger IsLonger (λ f. b ∷ f) (fronts bs) (λ x y _ _ lower. omega arith) (fronts_fall bs))
    (alone (cases_Bool (eqb b 47)))
    (λ x y h k. let from = In-map_from (λ f. b ∷ f) x (fronts bs) h in omega (arith, ap length from.2, ap length (last_front b y k).1))
  where
    alone : (eqb b 47 ≡ true) ⊎ (eqb b 47 ≡ false) → Falls IsLonger (cond (eqb b 47) ([] ∷ []) [])
    alone (inl e) = rw e ((λ y h. absurd h), tt)
    alone (inr e) = rw e tt

-- ---- the forms of the texts tried
pub heads : (b c : ℕ) (bs cs : List ℕ) → b ∷ bs ≡ c ∷ cs → b ≡ c
heads b c bs cs e = cc

form-front : (front path rest : List ℕ) → path ≡ 47 ∷ rest → Within front path → form (front ++ 47 ∷ 42 ∷ []) ≡ Prefix front
unfolding form
form-front [] path rest slash h = refl
form-front (b ∷ bs) path rest slash h =
    let begins : b ≡ 47 = first h in
    form-prefix (b ∷ (bs ++ 47 ∷ 42 ∷ [])) (b ∷ bs) (ne_eqb _ 0 (λ e. absurd (omega arith)))
    (false_from_ne_true _ (λ same. absurd (omega (arith, ap length (same_bytes (b ∷ (bs ++ 47 ∷ 42 ∷ [])) (47 ∷ []) same), length-append bs (47 ∷ 42 ∷ [])))))
    (λ r k. absurd (omega (arith, heads b 42 (bs ++ 47 ∷ 42 ∷ []) (46 ∷ r) k))) refl
  where
    first : Within (b ∷ bs) path → b ≡ 47
    first (inl whole) = heads b 47 bs rest (sym whole ∙ slash)
    first (inr below) = heads b 47 (bs ++ 47 ∷ below.0) rest (sym below.1 ∙ slash)

pub form-extension_text : (found : List ℕ) → form (42 ∷ 46 ∷ found) ≡ Extension found
unfolding form
form-extension_text found = refl

form-slash : form (47 ∷ []) ≡ Default
unfolding form
form-slash = refl

pub form-empty : form [] ≡ Root
unfolding form
form-empty = refl

bytes_same : (text : List ℕ) → bytes_eq text text ≡ true
bytes_same text = (bytes_eq-Decides text text).1 refl

some_bytes : (path rest : List ℕ) → path ≡ 47 ∷ rest → eqb (length path) 0 ≡ false
some_bytes path rest slash = rw slash (ne_eqb _ 0 (λ e. absurd (omega arith)))

no_star : (path rest : List ℕ) → path ≡ 47 ∷ rest → (r : List ℕ) → path ≡ 42 ∷ 46 ∷ r → ⊥
no_star path rest slash r k = absurd (omega (arith, heads 47 42 rest (46 ∷ r) (sym slash ∙ k)))

-- A path that begins with a slash is an exact pattern, unless it is `/` or ends like a prefix pattern.
form-path : (path rest : List ℕ) → path ≡ 47 ∷ rest → bytes_eq path (47 ∷ []) ≡ false → ends_with eqb path (47 ∷ 42 ∷ []) ≡ false → form path ≡ Exact path
form-path path rest slash other end =
    form-exact path (some_bytes path rest slash) other (no_star path rest slash)
    (λ front k. both_ways _ end ((ends_is Decides-eqb path (47 ∷ 42 ∷ []) _ refl).1 front k))

-- ---- the texts that each step tries
exact_form : (path rest text : List ℕ) → path ≡ 47 ∷ rest → In text (exact_texts path) → ((form text ≡ Root) × (path ≡ 47 ∷ [])) ⊎ (form text ≡ Exact path)
exact_form path rest text slash h =
    elim (cases_Bool (bytes_eq path (47 ∷ []))) [
      | inl e ↦ elim (rw e at h) [ inl same ↦ inl (rw same form-empty, same_bytes path (47 ∷ []) e) | inr k ↦ absurd k ]
      | inr e ↦ elim (cases_Bool (ends_with eqb path (47 ∷ 42 ∷ []))) [
        | inl f ↦ absurd (rw (e, f) at h)
        | inr f ↦ elim (rw (e, f) at h) [ inl same ↦ inr (rw same (form-path path rest slash e f)) | inr k ↦ absurd k ]
      ]
    ]

prefix_form : (path rest text : List ℕ) → path ≡ 47 ∷ rest → In text (prefix_texts path) → (front : List ℕ) × In front (fronts path) × (form text ≡ Prefix front)
prefix_form path rest text slash h =
    let from = In-map_from (λ front. front ++ 47 ∷ 42 ∷ []) text (fronts path) h in
    (from.0, from.1, ap form from.2 ∙ form-front from.0 path rest slash (fronts_sound from.0 path from.1))

option_holds : {X : Type 0} (o : Option X) (x : X) → In x (option_to_list o) → o ≡ Some x
option_holds None x h = absurd h
option_holds (Some y) x (inl e) = ap Some (sym e)
option_holds (Some y) x (inr h) = absurd h

extension_form : (path text : List ℕ) → In text (extension_texts path) → (found : List ℕ) × (extension path ≡ Some found) × (form text ≡ Extension found)
extension_form path text h =
    let from = In-map_from (λ found. 42 ∷ 46 ∷ found) text (option_to_list (extension path)) h in
    (from.0, option_holds (extension path) from.0 from.1, ap form from.2 ∙ form-extension_text from.0)

last_form : (text : List ℕ) → In text ((47 ∷ []) ∷ []) → form text ≡ Default
last_form text (inl same) = rw same form-slash
last_form text (inr h) = absurd h

pub last_sound : (path text : List ℕ) → In text (extension_texts path ++ (47 ∷ []) ∷ []) → matches text path ≡ true
last_sound path text h =
    elim (In-cases text (extension_texts path) _ h) [
      | inl k ↦ let x = extension_form path text k in rw (x.2, x.1) (bytes_same x.0)
      | inr k ↦ rw (last_form text k) refl
    ]

-- A text is tried exactly if it matches.
tried_sound : (path rest text : List ℕ) → path ≡ 47 ∷ rest → In text (tried_texts path) → matches text path ≡ true
tried_sound path rest text slash h =
    elim (In-cases text (exact_texts path) _ h) [
      | inl k ↦ elim (exact_form path rest text slash k) [ inl root ↦ rw (root.0, root.1) refl | inr exact ↦ rw exact (bytes_same path) ]
      | inr more ↦ elim (In-cases text (prefix_texts path) _ more) [
        | inl k ↦ let p = prefix_form path rest text slash k in rw p.2 (within_from p.0 path (fronts_sound p.0 path p.1))
        | inr more ↦ last_sound path text more
      ]
    ]

extension_is : (wanted : List ℕ) (o : Option (List ℕ)) → option_map_or (λ found. bytes_eq found wanted) o false ≡ true → In wanted (option_to_list o)
extension_is wanted None h = cc
extension_is wanted (Some found) h = inl (sym (same_bytes found wanted h))

pub extension_tried : (path wanted : List ℕ) → form_matches (Extension wanted) path ≡ true → In (42 ∷ 46 ∷ wanted) (extension_texts path)
extension_tried path wanted h = In-map (λ found. 42 ∷ 46 ∷ found) wanted (option_to_list (extension path)) (extension_is wanted (extension path) h)

tried_complete : (path rest text : List ℕ) → path ≡ 47 ∷ rest → matches text path ≡ true → In text (tried_texts path)
tried_complete path rest text slash h = rw (← form_text-form text) (go (form text) refl h)
  where
    exact : (t : List ℕ) → form text ≡ Exact t → path ≡ t → In t (exact_texts path)
    exact t e same =
        elim (cases_Bool (bytes_eq path (47 ∷ []))) [
          | inl slashed ↦ absurd (exact_is_no_slash text (e ∙ ap Exact (sym same ∙ same_bytes path (47 ∷ []) slashed)))
          | inr other ↦ elim (cases_Bool (ends_with eqb path (47 ∷ 42 ∷ []))) [
            | inr end ↦ rw (other, end) (inl (sym same))
            | inl end ↦
                let prefix = form-prefix path _ (some_bytes path rest slash) other (no_star path rest slash) ((ends_is Decides-eqb path (47 ∷ 42 ∷ []) _ refl).0 end) in
                let one : text ≡ path = sym (form_text-form text) ∙ (ap form_text e ∙ sym same) in
                absurd (apart _ t (sym prefix ∙ (ap form (sym one) ∙ e)))
          ]
        ]
      where
        apart : (front t : List ℕ) → Prefix front ≡ Exact t → ⊥
        apart front t k = cc

    go : (f : Form) → form text ≡ f → form_matches f path ≡ true → In (form_text f) (tried_texts path)
    go Root e m = In-left [] (exact_texts path) _ (rw m (inl refl))
    go Default e m = In-right (47 ∷ []) (exact_texts path) _ (In-right (47 ∷ []) (prefix_texts path) _ (In-right (47 ∷ []) (extension_texts path) _ (inl refl)))
    go (Extension wanted) e m =
        In-right (42 ∷ 46 ∷ wanted) (exact_texts path) _ (In-right (42 ∷ 46 ∷ wanted) (prefix_texts path) _ (In-left (42 ∷ 46 ∷ wanted) (extension_texts path) _
        (extension_tried path wanted m)))
    go (Prefix front) e m =
        In-right (front ++ 47 ∷ 42 ∷ []) (exact_texts path) _ (In-left (front ++ 47 ∷ 42 ∷ []) (prefix_texts path) _
        (In-map (λ front. front ++ 47 ∷ 42 ∷ []) front (fronts path) (fronts_complete front path (within_cases front path m))))
    go (Exact t) e m = In-left t (exact_texts path) _ (exact t e (same_bytes path t m))

-- ---- ranks fall
abbrev pub Above : List ℕ → List ℕ → Type 0
Above a b = outranks a b ≡ true

pub above : (a b : List ℕ) → (rank b).0 < (rank a).0 → Above a b
above a b h = or_left _ _ (lt-ltb _ _ h)

class_exact : (path rest text : List ℕ) → path ≡ 47 ∷ rest → In text (exact_texts path) → (rank text).0 ≡ 3
class_exact path rest text slash h = elim (exact_form path rest text slash h) [ inl root ↦ rw root.0 refl | inr exact ↦ rw exact refl ]

class_prefix : (path rest text : List ℕ) → path ≡ 47 ∷ rest → In text (prefix_texts path) → (rank text).0 ≡ 2
class_prefix path rest text slash h = rw (prefix_form path rest text slash h).2 refl

class_extension : (path text : List ℕ) → In text (extension_texts path) → (rank text).0 ≡ 1
class_extension path text h = rw (extension_form path text h).2 refl

class_default : (text : List ℕ) → In text ((47 ∷ []) ∷ []) → (rank text).0 ≡ 0
class_default text h = rw (last_form text h) refl

pub class_after_prefix : (path text : List ℕ) → In text (extension_texts path ++ (47 ∷ []) ∷ []) → (rank text).0 < 2
class_after_prefix path text h =
    elim (In-cases text (extension_texts path) ((47 ∷ []) ∷ []) h) [ inl k ↦ omega (arith, class_extension path text k) | inr k ↦ omega (arith, class_default text k) ]

class_after_exact : (path rest text : List ℕ) → path ≡ 47 ∷ rest → In text (prefix_texts path ++ (extension_texts path ++ (47 ∷ []) ∷ [])) → (rank text).0 < 3
class_after_exact path rest text slash h =
    elim (In-cases text (prefix_texts path) (extension_texts path ++ (47 ∷ []) ∷ []) h) [ inl k ↦ omega (arith, class_prefix path rest text slash k) | inr k ↦ omega (arith, class_after_prefix path text k) ]

exact_falls : (path : List ℕ) → Falls Above (exact_texts path)
exact_falls path =
    elim (cases_Bool (bytes_eq path (47 ∷ []))) [
      | inl e ↦ rw e ((λ y h. absurd h), tt)
      | inr e ↦ elim (cases_Bool (ends_with eqb path (47 ∷ 42 ∷ []))) [ inl f ↦ rw (e, f) tt | inr f ↦ rw (e, f) ((λ y h. absurd h), tt) ]
    ]

prefix_falls : (path rest : List ℕ) → path ≡ 47 ∷ rest → Falls Above (prefix_texts path)
prefix_falls path rest slash =
    Falls-map IsLonger Above (λ front. front ++ 47 ∷ 42 ∷ []) (fronts path)
    (λ x y h k longer.
    rw (form-front x path rest slash (fronts_sound x path h), form-front y path rest slash (fronts_sound y path k))
    (lt-ltb _ _ longer))
    (fronts_fall path)

extension_falls : (o : Option (List ℕ)) → Falls Above (map (λ found. 42 ∷ 46 ∷ found) (option_to_list o))
extension_falls None = tt
extension_falls (Some found) = ((λ y h. absurd h), tt)

pub last_falls : (path : List ℕ) → Falls Above (extension_texts path ++ (47 ∷ []) ∷ [])
last_falls path =
    Falls-append Above (extension_texts path) ((47 ∷ []) ∷ []) (extension_falls (extension path)) ((λ y h. absurd h), tt)
    (λ x y h k. above x y (omega (arith, class_extension path x h, class_default y k)))

pub tries_in_order : (path rest : List ℕ) → path ≡ 47 ∷ rest → TriesInOrder path (tried_texts path)
tries_in_order path rest slash = record {
  sound = λ text. tried_sound path rest text slash;
  complete = λ text _. tried_complete path rest text slash;
  falls =
      Falls-append Above (exact_texts path) _ (exact_falls path)
      (Falls-append Above (prefix_texts path) _ (prefix_falls path rest slash) (last_falls path)
      (λ x y h k. above x y (omega (arith, class_prefix path rest x slash h, class_after_prefix path y k))))
      (λ x y h k. above x y (omega (arith, class_exact path rest x slash h, class_after_exact path rest y slash k)));
}
