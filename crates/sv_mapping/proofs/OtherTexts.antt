-- The texts tried for a path without a slash at its front are all accepted patterns that match it, in falling order of
-- rank.
use Rattle.std.proofs.Common.{◌≡◌, ℕ, true, false, List, [], ◌∷◌, ◌++◌, eqb, length, drop, cond, refl, sym, ◌∙◌, ap, arith, inl, inr}
use Rattle.std.specs.List.{list_all, starts_with}
use Rattle.std.specs.Str.{bytes_eq}
use Rattle.std.proofs.lemmas.Bool.{and_parts, both_ways, cases_Bool, or_cases}
use Rattle.std.proofs.lemmas.Bool.Decides.{Decides-eqb}
use Rattle.std.proofs.lemmas.Slice.Eq.{starts_is}
use Rattle.sv_mapping.specs.BestMatch.{rank}
use Rattle.sv_mapping.specs.MatchOrder.{extension_texts, other_texts}
use Rattle.sv_mapping.specs.Pattern.{Form, Root, Default, Extension, Prefix, Exact, form, form_matches, form_text, is_pattern, matches}
use Rattle.sv_mapping.proofs.Texts.{same_bytes, starts}
use Rattle.sv_mapping.proofs.Tried.{Falls, Falls-append, In, In-cases, In-left, In-right, Tries}
use Rattle.sv_mapping.proofs.TriedTexts.{Above, above, class_after_prefix, extension_tried, form-empty, form-extension_text, heads, last_falls, last_sound}
use Rattle.sv_mapping.proofs.Uniqueness.{form_text-form}

pub listed : (patterns : List (List ℕ)) → list_all is_pattern patterns ≡ true → (text : List ℕ) → In text patterns → is_pattern text ≡ true
listed [] h text k = absurd k
listed (p ∷ ps) h text (inl e) = ap is_pattern e ∙ (and_parts (is_pattern p) (list_all is_pattern ps) h).0
listed (p ∷ ps) h text (inr k) = listed ps (and_parts (is_pattern p) (list_all is_pattern ps) h).1 text k

-- ---- how an accepted text begins
slashed : (text : List ℕ) → is_pattern text ≡ true → (text ≡ [] → ⊥) → ((rest : List ℕ) → text ≡ 42 ∷ 46 ∷ rest → ⊥) → (rest : List ℕ) × (text ≡ 47 ∷ rest)
slashed text accepted some starless =
    elim (or_cases _ _ (and_parts _ _ accepted).1) [
      | inr star ↦ absurd (starless _ ((starts_is Decides-eqb text (42 ∷ 46 ∷ []) _ refl).0 (and_parts _ _ star).0))
      | inl path ↦ elim (or_cases _ _ path) [
        | inl empty ↦ absurd (some (same_bytes text [] empty))
        | inr slash ↦ (_, (starts_is Decides-eqb text (47 ∷ []) _ refl).0 slash)
      ]
    ]

-- Texts of different forms differ.
not_of : (text other : List ℕ) (f g : Form) → form text ≡ f → form other ≡ g → (f ≡ g → ⊥) → text ≡ other → ⊥
not_of text other f g h k apart e = apart (sym h ∙ (ap form e ∙ k))

form-all : form (47 ∷ 42 ∷ []) ≡ Prefix []
unfolding form
form-all = refl

slashed_prefix : (text front : List ℕ) → is_pattern text ≡ true → form text ≡ Prefix front → (rest : List ℕ) × (text ≡ 47 ∷ rest)
slashed_prefix text front accepted e =
    slashed text accepted (not_of text [] (Prefix front) Root e form-empty (λ k. cc)) (λ rest. not_of text (42 ∷ 46 ∷ rest) (Prefix front) (Extension rest) e (form-extension_text rest) (λ k. cc))

slashed_exact : (text path : List ℕ) → is_pattern text ≡ true → form text ≡ Exact path → (rest : List ℕ) × (text ≡ 47 ∷ rest)
slashed_exact text path accepted e =
    slashed text accepted (not_of text [] (Exact path) Root e form-empty (λ k. cc)) (λ rest. not_of text (42 ∷ 46 ∷ rest) (Exact path) (Extension rest) e (form-extension_text rest) (λ k. cc))

-- ---- the pattern that matches all below the root, for the empty path
abbrev all_texts : List ℕ → List (List ℕ)
all_texts path = cond (bytes_eq path []) ((47 ∷ 42 ∷ []) ∷ []) []

all_form : (path text : List ℕ) → In text (all_texts path) → (form text ≡ Prefix []) × (path ≡ [])
all_form path text h =
    elim (cases_Bool (bytes_eq path [])) [
      | inl e ↦ elim (rw e at h) [ inl same ↦ (rw same form-all, same_bytes path [] e) | inr k ↦ absurd k ]
      | inr e ↦ absurd (rw e at h)
    ]

all_falls : (path : List ℕ) → Falls Above (all_texts path)
all_falls path = elim (cases_Bool (bytes_eq path [])) [ inl e ↦ rw e ((λ y h. absurd h), tt) | inr e ↦ rw e tt ]

class_all : (path text : List ℕ) → In text (all_texts path) → (rank text).0 ≡ 2
class_all path text h = rw (all_form path text h).0 refl

-- ---- a text is tried exactly if it matches
other_sound : (path text : List ℕ) → In text (other_texts path) → matches text path ≡ true
other_sound path text h =
    elim (In-cases text (all_texts path) _ h) [
      | inl k ↦ let all = all_form path text k in rw (all.0, all.1) refl
      | inr k ↦ last_sound path text k
    ]

module _ (path : List ℕ) (bare : starts_with eqb path (47 ∷ []) ≡ false) where
  no_slash : (rest : List ℕ) → path ≡ 47 ∷ rest → ⊥
  no_slash rest e = both_ways _ bare (starts path (47 ∷ []) rest e)

  prefix_tried : (front : List ℕ) → ((rest : List ℕ) × (front ++ 47 ∷ 42 ∷ [] ≡ 47 ∷ rest)) → form_matches (Prefix front) path ≡ true → In (front ++ 47 ∷ 42 ∷ []) (all_texts path)
  prefix_tried [] begins m =
      elim (or_cases _ _ m) [
        | inl whole ↦ let empty : bytes_eq path [] ≡ true = whole in rw empty (inl refl)
        | inr below ↦ absurd (no_slash _ ((starts_is Decides-eqb path (47 ∷ []) _ refl).0 below))
      ]
  prefix_tried (b ∷ bs) begins m =
      let first : b ≡ 47 = heads b 47 (bs ++ 47 ∷ 42 ∷ []) begins.0 begins.1 in
      elim (or_cases _ _ m) [
        | inl whole ↦ absurd (no_slash bs (same_bytes path (b ∷ bs) whole ∙ ap (λ c. c ∷ bs) first))
        | inr below ↦ let whole : path ≡ b ∷ ((bs ++ 47 ∷ []) ++ drop (length (b ∷ (bs ++ 47 ∷ []))) path) = (starts_is Decides-eqb path (b ∷ (bs ++ 47 ∷ [])) _ refl).0 below in
            absurd (no_slash _ (whole ∙ ap (λ c. c ∷ ((bs ++ 47 ∷ []) ++ drop (length (b ∷ (bs ++ 47 ∷ []))) path)) first))
      ]

  other_complete : (text : List ℕ) → is_pattern text ≡ true → matches text path ≡ true → In text (other_texts path)
  other_complete text accepted h = rw (← form_text-form text) (go (form text) refl h)
    where
      go : (f : Form) → form text ≡ f → form_matches f path ≡ true → In (form_text f) (other_texts path)
      go Root e m = absurd (no_slash [] (same_bytes path (47 ∷ []) m))
      go Default e m = In-right (47 ∷ []) (all_texts path) _ (In-right (47 ∷ []) (extension_texts path) _ (inl refl))
      go (Extension wanted) e m = In-right (42 ∷ 46 ∷ wanted) (all_texts path) _ (In-left (42 ∷ 46 ∷ wanted) (extension_texts path) _ (extension_tried path wanted m))
      go (Prefix front) e m =
          let begins = slashed_prefix text front accepted e in
          In-left (front ++ 47 ∷ 42 ∷ []) (all_texts path) _ (prefix_tried front (begins.0, sym (ap form_text e) ∙ (form_text-form text ∙ begins.1)) m)
      go (Exact t) e m =
          let begins = slashed_exact text t accepted e in
          absurd (no_slash begins.0 (same_bytes path t m ∙ (sym (ap form_text e) ∙ (form_text-form text ∙ begins.1))))

  pub other_tries : Tries (λ text. is_pattern text ≡ true) path (other_texts path)
  other_tries = record {
    sound = other_sound path;
    complete = other_complete;
    falls = Falls-append Above (all_texts path) _ (all_falls path) (last_falls path) (λ x y h k. above x y (omega (arith, class_all path x h, class_after_prefix path y k)));
  }
