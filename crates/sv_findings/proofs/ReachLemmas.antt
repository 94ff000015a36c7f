-- The paths of a pattern that is hidden, or belongs to another context.
use Rattle.std.proofs.lemmas.Bool.{false≢true, or_cases, or_left, or_right}
use Rattle.std.proofs.lemmas.Bool.Decides.{Decides-eqb}
use Rattle.std.proofs.lemmas.Slice.Eq.{bytes_eq-Decides, starts_is}
use Rattle.std.proofs.Common.{arith, ◌≡◌, ℕ, suc, ◌+◌, Bool, true, false, not, ◌||◌, ◌&&◌, List, [], ◌∷◌, ◌++◌, length, drop, take, codes, refl, ap, sym, ◌∙◌, cond, append_assoc, Option, Some, None, inl, inr, ◌⊎◌}
use Rattle.std.specs.Prelude.{nat_lt, position, slice_get}
use Rattle.sv_mapping.proofs.FirstBest.{get-position}
use Rattle.std.specs.List.{before_first, list_any}
use Rattle.std.specs.Option.{option_and_then, option_map_or}
use Rattle.std.specs.Str.{bytes_eq}
use Rattle.sv_mapping.specs.Chosen.{is_chosen}
use Rattle.sv_mapping.specs.Pattern.{Form, Root, Default, Extension, Prefix, Exact, form, form_matches, is_at_or_below, is_slash, matches}
use Rattle.sv_mapping.specs.Protected.{first_segment, is_protected, is_protected_folder}
use Rattle.sv_mapping.specs.Within.{path_within}
use Rattle.sv_policy.proofs.Best.{any_in, found_in}
use Rattle.std.proofs.Math.Seq.{drop-append_seam}
use Rattle.sv_audit.proofs.Names.{below_above}
use Rattle.sv_audit.proofs.Equal.{and_left, both}
use Rattle.sv_findings.specs.Reach.{ElsewhereIsForeign, HiddenIsProtected, ServedIsReached, chosen_path, front_of, own_reach, reach_against, reach_below, reach_of}
use Rattle.sv_findings.specs.declared.reach.Reach.{Reach}
use Rattle.sv_findings.specs.declared.reach.Reach.TheVariants.{Reached, Hidden, Elsewhere, Unmatched}

-- ---- The first segment of what lies below a front.
abbrev Below : List ℕ → List ℕ → Type 0
Below front path = (path ≡ front) ⊎ ((rest : List ℕ) × (path ≡ front ++ 47 ∷ rest))

below : (front path : List ℕ) → is_at_or_below front path ≡ true → Below front path
below front path h =
    elim (or_cases _ _ h) [
      | inl whole ↦ inl ((bytes_eq-Decides path front).0 whole)
      | inr lies ↦ inr (_, (starts_is Decides-eqb path (front ++ 47 ∷ []) _ refl).0 lies ∙ append_assoc front (47 ∷ []) _)
    ]

take_more : (b : ℕ) (xs : List ℕ) (n : ℕ) → take (1 + n) (b ∷ xs) ≡ b ∷ take n xs
take_more b xs n = let one : 1 + n ≡ suc n = omega arith in ap (λ k. take k (b ∷ xs)) one

drop_more : (b : ℕ) (xs : List ℕ) (n : ℕ) → drop (1 + n + 1) (b ∷ xs) ≡ drop (n + 1) xs
drop_more b xs n = let one : 1 + n + 1 ≡ suc (n + 1) = omega arith in ap (λ k. drop k (b ∷ xs)) one

before_at : (b : ℕ) (text rest : List ℕ) (slash : Bool) → is_slash b ≡ slash → before_first is_slash (text ++ 47 ∷ rest) ≡ before_first is_slash text → before_first is_slash (b ∷ (text ++ 47 ∷ rest)) ≡ before_first is_slash (b ∷ text)
before_at b text rest true is same = rw is refl
before_at b text rest false is same = rw is (take_more b (text ++ 47 ∷ rest) _ ∙ ap (λ front. b ∷ front) same ∙ sym (take_more b text _))

before_same : (text rest : List ℕ) → before_first is_slash (text ++ 47 ∷ rest) ≡ before_first is_slash text
before_same [] rest = refl
before_same (b ∷ text) rest = before_at b text rest (is_slash b) refl (before_same text rest)

-- A front with a slash has the first segment of what lies below it. Without a slash it has none.
segment_at : (b : ℕ) (front rest : List ℕ) (slash : Bool) → is_slash b ≡ slash → (slash || list_any is_slash front) ≡ true → (list_any is_slash front ≡ true → first_segment (front ++ 47 ∷ rest) ≡ first_segment front)
    → first_segment (b ∷ (front ++ 47 ∷ rest)) ≡ first_segment (b ∷ front)
segment_at b front rest true is some same = rw is (before_same front rest)
segment_at b front rest false is some same = rw is (ap (before_first is_slash) (drop_more b (front ++ 47 ∷ rest) _) ∙ same some ∙ sym (ap (before_first is_slash) (drop_more b front _)))

segment_same : (front rest : List ℕ) → list_any is_slash front ≡ true → first_segment (front ++ 47 ∷ rest) ≡ first_segment front
segment_same [] rest some = absurd (false≢true some)
segment_same (b ∷ front) rest some = segment_at b front rest (is_slash b) refl some (segment_same front rest)

no_segment_at : (b : ℕ) (front : List ℕ) (slash : Bool) → is_slash b ≡ slash → (slash || list_any is_slash front) ≡ false → (list_any is_slash front ≡ false → first_segment front ≡ []) → first_segment (b ∷ front) ≡ []
no_segment_at b front true is none rest = absurd (false≢true (sym none))
no_segment_at b front false is none rest = rw is (ap (before_first is_slash) (drop_more b front _) ∙ rest none)

no_segment : (front : List ℕ) → list_any is_slash front ≡ false → first_segment front ≡ []
no_segment [] none = refl
no_segment (b ∷ front) none = no_segment_at b front (is_slash b) refl none (no_segment front)

from_below : (front path : List ℕ) → Below front path → is_at_or_below front path ≡ true
from_below front path (inl whole) = or_left _ _ ((bytes_eq-Decides path front).1 whole)
from_below front path (inr lies) = or_right _ _ ((starts_is Decides-eqb path (front ++ 47 ∷ []) _ refl).1 lies.0 (lies.1 ∙ sym (append_assoc front (47 ∷ []) lies.0)))

protected_at : (front path : List ℕ) (some : Bool) → list_any is_slash front ≡ some → is_protected front ≡ true → Below front path → is_protected path ≡ true
protected_at front path false none hidden lies = absurd (false≢true (sym (ap is_protected_folder (no_segment front none)) ∙ hidden))
protected_at front path true some hidden (inl whole) = ap is_protected whole ∙ hidden
protected_at front path true some hidden (inr lies) = ap is_protected lies.1 ∙ ap is_protected_folder (segment_same front lies.0 some) ∙ hidden

-- ---- The front of a pattern.
-- All paths of the pattern are at or below its front, which is not `/`.
abbrev IsFrontOf : List ℕ → List ℕ → Type 0
IsFrontOf path front = (is_at_or_below front path ≡ true) × (bytes_eq front (codes "/") ≡ false)

root_at : (text front path : List ℕ) (is : Bool) → bytes_eq text (codes "/") ≡ is → cond is None (Some text) ≡ Some front → is_at_or_below text path ≡ true → IsFrontOf path front
root_at text front path true is found lies = cc
root_at text front path false is found lies = let same : text ≡ front = cc in (ap (λ t. is_at_or_below t path) (sym same) ∙ lies, ap (λ t. bytes_eq t (codes "/")) (sym same) ∙ is)

front_at : (f : Form) (front path : List ℕ) → front_of f ≡ Some front → form_matches f path ≡ true → IsFrontOf path front
front_at Root front path is matched = cc
front_at Default front path is matched = cc
front_at (Extension wanted) front path is matched = cc
front_at (Prefix prefix) front path is matched = root_at prefix front path (bytes_eq prefix (codes "/")) refl is matched
front_at (Exact text) front path is matched = root_at text front path (bytes_eq text (codes "/")) refl is (or_left _ _ matched)

-- ---- Hidden patterns.
own_hidden : (protected : Bool) → cond protected Hidden Reached ≡ Hidden → protected ≡ true
own_hidden true is = refl
own_hidden false is = cc

own_elsewhere : (protected : Bool) (other : List ℕ) → cond protected Hidden Reached ≡ Elsewhere other → ⊥
own_elsewhere true other is = cc
own_elsewhere false other is = cc

against_hidden : (front chosen : List ℕ) (longer : Bool) → cond longer (Elsewhere chosen) (own_reach front) ≡ Hidden → is_protected front ≡ true
against_hidden front chosen true is = cc
against_hidden front chosen false is = own_hidden (is_protected front) is

below_hidden : (context front : List ℕ) (chosen : Option (List ℕ)) → option_map_or (reach_against context front) chosen (own_reach front) ≡ Hidden → is_protected front ≡ true
below_hidden context front None is = own_hidden (is_protected front) is
below_hidden context front (Some chosen) is = against_hidden front chosen (nat_lt (length context) (length chosen)) is

module _ (contexts : List (List ℕ)) (context pattern : List ℕ) where
  hidden_from : (path : List ℕ) (front : Option (List ℕ)) → front_of (form pattern) ≡ front → option_map_or (reach_below contexts context) front Reached ≡ Hidden → matches pattern path ≡ true → is_protected path ≡ true
  hidden_from path None is hidden matched = cc
  hidden_from path (Some front) is hidden matched =
      protected_at front path (list_any is_slash front) refl (below_hidden context front (chosen_path contexts (context ++ front)) hidden) (below front path (front_at (form pattern) front path is matched).0)

pub hidden_protected : HiddenIsProtected
hidden_protected contexts context pattern path is matched = hidden_from contexts context pattern path (front_of (form pattern)) refl is matched

-- ---- Patterns of other contexts.
-- The front within the context is a front of the whole path.
only_slash : (front rest : List ℕ) → codes "/" ≡ front ++ 47 ∷ rest → front ≡ []
only_slash [] rest is = refl
only_slash (b ∷ []) rest is = cc
only_slash (b ∷ c ∷ front) rest is = cc

nil_right : (text : List ℕ) → text ++ [] ≡ text
nil_right [] = refl
nil_right (b ∷ text) = ap (λ t. b ∷ t) (nil_right text)

at_root : (context front : List ℕ) → bytes_eq front (codes "/") ≡ false → Below front (codes "/") → Below (context ++ front) context
at_root context front other (inl whole) = absurd (false≢true (sym other ∙ (bytes_eq-Decides front (codes "/")).1 (sym whole)))
at_root context front other (inr lies) = inl (sym (ap (λ t. context ++ t) (only_slash front lies.0 lies.1) ∙ nil_right context))

at_rest : (context front rest : List ℕ) → Below front rest → Below (context ++ front) (context ++ rest)
at_rest context front rest (inl whole) = inl (ap (λ t. context ++ t) whole)
at_rest context front rest (inr lies) = inr (lies.0, ap (λ t. context ++ t) lies.1 ∙ sym (append_assoc context front (47 ∷ lies.0)))

below_along : (front p q : List ℕ) → p ≡ q → Below front q → Below front p
below_along front p q same (inl whole) = inl (same ∙ whole)
below_along front p q same (inr lies) = inr (lies.0, same ∙ lies.1)

whole_front : (context front path : List ℕ) → bytes_eq front (codes "/") ≡ false → (same : Bool) → bytes_eq path context ≡ same → Below context path → is_at_or_below front (cond same (codes "/") (drop (length context) path)) ≡ true → Below (context ++ front) path
whole_front context front path other true is served lies = below_along (context ++ front) path context ((bytes_eq-Decides path context).0 is) (at_root context front other (below front (codes "/") lies))
whole_front context front path other false is (inl whole) lies = absurd (false≢true (sym is ∙ (bytes_eq-Decides path context).1 whole))
whole_front context front path other false is (inr served) lies =
    below_along (context ++ front) path (context ++ 47 ∷ served.0) served.1
    (at_rest context front (47 ∷ served.0) (below front (47 ∷ served.0) (ap (is_at_or_below front) (sym (ap (drop (length context)) served.1 ∙ drop-append_seam context (47 ∷ served.0))) ∙ lies)))

none_and : (a b : Bool) → b ≡ true → (a && not b) ≡ false
none_and true b is = ap not is
none_and false b is = refl

module _ (contexts : List (List ℕ)) (context path : List ℕ) (served : is_at_or_below context path ≡ true) where
  taken : (front chosen : List ℕ) → chosen_path contexts (context ++ front) ≡ Some chosen → nat_lt (length context) (length chosen) ≡ true → is_at_or_below (context ++ front) path ≡ true → is_chosen contexts path context ≡ false
  taken front chosen is longer lies =
      let found : (is_chosen contexts (context ++ front) chosen ≡ true) × _ = found_in (is_chosen contexts (context ++ front)) contexts chosen is in
      none_and (is_at_or_below context path) (list_any (λ other. is_at_or_below other path && nat_lt (length context) (length other)) contexts)
      (any_in (λ other. is_at_or_below other path && nat_lt (length context) (length other)) contexts chosen found.1
      (both (is_at_or_below chosen path) (nat_lt (length context) (length chosen))
      (below_above chosen (context ++ front) path (and_left _ _ found.0) lies) longer))

  against_taken : (front chosen other : List ℕ) → chosen_path contexts (context ++ front) ≡ Some chosen → (longer : Bool) → nat_lt (length context) (length chosen) ≡ longer → cond longer (Elsewhere chosen) (own_reach front) ≡ Elsewhere other
      → is_at_or_below (context ++ front) path ≡ true → is_chosen contexts path context ≡ false
  against_taken front chosen other is true longer elsewhere lies = taken front chosen is longer lies
  against_taken front chosen other is false longer elsewhere lies = absurd (own_elsewhere (is_protected front) other elsewhere)

  below_taken : (front other : List ℕ) (chosen : Option (List ℕ)) → chosen_path contexts (context ++ front) ≡ chosen → option_map_or (reach_against context front) chosen (own_reach front) ≡ Elsewhere other
      → is_at_or_below (context ++ front) path ≡ true → is_chosen contexts path context ≡ false
  below_taken front other None is elsewhere lies = absurd (own_elsewhere (is_protected front) other elsewhere)
  below_taken front other (Some chosen) is elsewhere lies = against_taken front chosen other is (nat_lt (length context) (length chosen)) refl elsewhere lies

  elsewhere_from : (pattern other : List ℕ) (front : Option (List ℕ)) → front_of (form pattern) ≡ front → option_map_or (reach_below contexts context) front Reached ≡ Elsewhere other → matches pattern (path_within context path) ≡ true → is_chosen contexts path context ≡ false
  elsewhere_from pattern other None is elsewhere matched = cc
  elsewhere_from pattern other (Some front) is elsewhere matched =
      let its : IsFrontOf (path_within context path) front = front_at (form pattern) front (path_within context path) is matched in
      below_taken front other (chosen_path contexts (context ++ front)) refl elsewhere
      (from_below (context ++ front) path (whole_front context front path its.1 (bytes_eq path context) refl (below context path served) its.0))

pub elsewhere_foreign : ElsewhereIsForeign
elsewhere_foreign contexts context pattern path other is served matched = elsewhere_from contexts context path served pattern other (front_of (form pattern)) refl is matched

-- ---- Some path matches the pattern, as far as contexts and folders tell.
own_matched : (protected : Bool) → cond protected Hidden Reached ≡ Unmatched → ⊥
own_matched true is = cc
own_matched false is = cc

against_matched : (front chosen : List ℕ) (longer : Bool) → cond longer (Elsewhere chosen) (own_reach front) ≡ Unmatched → ⊥
against_matched front chosen true is = cc
against_matched front chosen false is = own_matched (is_protected front) is

below_matched : (context front : List ℕ) (chosen : Option (List ℕ)) → option_map_or (reach_against context front) chosen (own_reach front) ≡ Unmatched → ⊥
below_matched context front None is = own_matched (is_protected front) is
below_matched context front (Some chosen) is = against_matched front chosen (nat_lt (length context) (length chosen)) is

always_matched : (contexts : List (List ℕ)) (context : List ℕ) (front : Option (List ℕ)) → option_map_or (reach_below contexts context) front Reached ≡ Unmatched → ⊥
always_matched contexts context None is = cc
always_matched contexts context (Some front) is = below_matched context front (chosen_path contexts (context ++ front)) is

-- ---- What the context serves.
pub served_reached : ServedIsReached
served_reached contexts context pattern path chosen shown matched = by_reach (reach_of contexts context pattern) refl
  where
    by_reach : (reach : Reach) → reach_of contexts context pattern ≡ reach → reach_of contexts context pattern ≡ Reached
    by_reach Reached is = is
    by_reach Hidden is = absurd (false≢true (sym shown ∙ hidden_protected contexts context pattern (path_within context path) is matched))
    by_reach (Elsewhere other) is = absurd (false≢true (sym (elsewhere_foreign contexts context pattern path other is (and_left _ _ chosen) matched) ∙ chosen))
    by_reach Unmatched is = absurd (always_matched contexts context (front_of (form pattern)) is)

-- ---- The chosen context path by its place.
pub path_at : (index contexts : List (List ℕ)) (path : List ℕ) (place : Option ℕ) (found : Option (List ℕ)) → index ≡ contexts → place ≡ position (is_chosen index path) index → found ≡ option_and_then (λ i. slice_get contexts i) place → found ≡ chosen_path contexts path
path_at index contexts path place found same at is =
    is ∙ ap (option_and_then (λ i. slice_get contexts i)) (at ∙ ap (λ paths. position (is_chosen paths path) paths) same) ∙ get-position (is_chosen contexts path) contexts
