-- Narrower patterns are those that are chosen before another one at some path.
use Rattle.std.proofs.lemmas.Bool.{not-true, and_parts, false_from_ne_true, false≢true, not_from_false, not_from_true, or_cases, or_left, or_right}
use Rattle.std.proofs.lemmas.Bool.Decides.{Decides-eqb, nat_tests}
use Rattle.std.proofs.lemmas.List.{get_or-append_right, get_or_at}
use Rattle.std.proofs.lemmas.List.Folds.{list_any_at}
use Rattle.std.proofs.lemmas.List.Sums.{suffix_len_is}
use Rattle.std.proofs.lemmas.Slice.Eq.{bytes_eq-Decides, starts_is}
use Rattle.std.proofs.Common.{arith, ◌≡◌, ℕ, ◌+◌, ◌-◌, ◌<◌, ◌≤◌, zero, suc, Bool, true, false, not, ◌||◌, ◌&&◌, List, [], ◌∷◌, ◌++◌, append_assoc, length, length-append, take, drop, codes, refl, ap, ap₂, sym, ◌∙◌, cond, None, Some, inl, inr}
use Rattle.std.specs.Prelude.{◌≢◌, Contains, nat_eq, nat_le, nat_lt, slice_index_or}
use Rattle.std.specs.List.{after_last, list_any, starts_with, suffix_len}
use Rattle.std.specs.Option.{option_map_or}
use Rattle.std.specs.Str.{bytes_eq}
use Rattle.sv_constraints.specs.Covering.{lists}
use Rattle.sv_mapping.proofs.BestMatches.{unbeaten_by_member}
use Rattle.sv_mapping.proofs.Texts.{within_front}
use Rattle.sv_mapping.proofs.Uniqueness.{form_text-form, same_text}
use Rattle.sv_mapping.specs.BestMatch.{BestIsAMatch, form_rank, is_above, is_best, outranks}
use Rattle.sv_mapping.specs.Pattern.{Form, Root, Default, Extension, Prefix, Exact, form, form_matches, form_text, has_extension, is_at_or_below, is_dot, is_pattern, is_slash, last_segment, matches}
use Rattle.sv_mapping.specs.declared.pattern.TheConstants.{MAX_PATTERN_BYTES}
use Rattle.sv_policy.proofs.Best.{found_in}
use Rattle.sv_policy.proofs.Steps.{passing_lists}
use Rattle.sv_audit.proofs.Shapes.{undotted_extension}
use Rattle.sv_audit.specs.Narrower.{NarrowerAreComplete, NarrowerAreSound, cuts}

-- ---- A longer prefix of the same path is below the shorter one.
take_past : (front : List ℕ) (n : ℕ) (rest : List ℕ) → take (length front + suc n) (front ++ 47 ∷ rest) ≡ front ++ 47 ∷ take n rest
take_past [] n rest = let at : length {A = ℕ} [] + suc n ≡ suc n = omega arith in ap (λ k. take k (47 ∷ rest)) at
take_past (b ∷ front) n rest =
    let at : length (b ∷ front) + suc n ≡ suc (length front + suc n) = omega arith in
    ap (λ k. take k (b ∷ (front ++ 47 ∷ rest))) at ∙ ap (λ xs. b ∷ xs) (take_past front n rest)

starts_at : (text front rest : List ℕ) → text ≡ front ++ rest → starts_with nat_eq text front ≡ true
starts_at text front rest is = (starts_is Decides-eqb text front _ refl).1 rest is

take_length : (n : ℕ) (xs : List ℕ) → length (take n xs) ≤ length xs
take_length zero xs = omega arith
take_length (suc n) [] = omega arith
take_length (suc n) (x ∷ xs) = omega (arith, take_length n xs)

prefix_below : (prefix longer path : List ℕ) → length prefix < length longer → is_at_or_below longer path ≡ true → is_at_or_below prefix path ≡ true → is_at_or_below prefix longer ≡ true
prefix_below prefix longer path less at below =
    elim (or_cases (bytes_eq path prefix) (starts_with nat_eq path (prefix ++ codes "/")) below) [
      | inl same ↦
          let is : path ≡ prefix = (bytes_eq-Decides path prefix).0 same in
          absurd (omega (arith, less, ap length (within_front longer path at), take_length (length longer) path, ap length is))
      | inr under ↦
          let rest : List ℕ = drop (length (prefix ++ 47 ∷ [])) path in
          let is : path ≡ (prefix ++ 47 ∷ []) ++ rest = (starts_is Decides-eqb path (prefix ++ 47 ∷ []) _ refl).0 under in
          let more : ℕ = length longer - length prefix - 1 in
          let long : length longer ≡ length prefix + suc more = omega (arith, less) in
          let cut : longer ≡ prefix ++ 47 ∷ take more rest =
          sym (within_front longer path at) ∙ ap₂ take long (is ∙ append_assoc prefix (47 ∷ []) rest) ∙ take_past prefix more rest in
          or_right (bytes_eq longer prefix) (starts_with nat_eq longer (prefix ++ codes "/")) (starts_at longer (prefix ++ 47 ∷ []) (take more rest) (cut ∙ sym (append_assoc prefix (47 ∷ []) (take more rest))))
    ]

-- ---- The forms of a best match and of another match.
is_at : (path text : List ℕ) → bytes_eq path text ≡ true → path ≡ text
is_at path text same = (bytes_eq-Decides path text).0 same

longer_from : (m n : ℕ) → (nat_lt 2 2 || (true && nat_lt m n)) ≡ true → nat_lt m n ≡ true
longer_from m n is = is

less_from : (m n : ℕ) → nat_lt m n ≡ true → m < n
less_from m n is = grind (arith, nat_tests)

cuts_from : (first second : Form) (path : List ℕ) → form_matches first path ≡ true → form_matches second path ≡ true → is_above (form_rank first) (form_rank second) ≡ true → cuts first second ≡ true
cuts_from Root Root path one two above = absurd (false≢true above)
cuts_from Root (Exact text) path one two above = absurd (false≢true above)
cuts_from Root (Prefix prefix) path one two above = ap (is_at_or_below prefix) (sym (is_at path (codes "/") one)) ∙ two
cuts_from Root (Extension wanted) path one two above = ap (has_extension wanted) (sym (is_at path (codes "/") one)) ∙ two
cuts_from Root Default path one two above = refl
cuts_from (Exact text) Root path one two above = absurd (false≢true above)
cuts_from (Exact text) (Exact other) path one two above = absurd (false≢true above)
cuts_from (Exact text) (Prefix prefix) path one two above = ap (is_at_or_below prefix) (sym (is_at path text one)) ∙ two
cuts_from (Exact text) (Extension wanted) path one two above = ap (has_extension wanted) (sym (is_at path text one)) ∙ two
cuts_from (Exact text) Default path one two above = refl
cuts_from (Prefix longer) Root path one two above = absurd (false≢true above)
cuts_from (Prefix longer) (Exact text) path one two above = absurd (false≢true above)
cuts_from (Prefix longer) (Prefix prefix) path one two above =
    let less : nat_lt (length prefix) (length longer) ≡ true = longer_from (length prefix) (length longer) above in
    ap₂ (λ a b. a && b) less (prefix_below prefix longer path (less_from (length prefix) (length longer) less) one two)
cuts_from (Prefix longer) (Extension wanted) path one two above = not_from_false (list_any is_dot wanted) (undotted_extension wanted path two)
cuts_from (Prefix longer) Default path one two above = refl
cuts_from (Extension wanted) Root path one two above = absurd (false≢true above)
cuts_from (Extension wanted) (Exact text) path one two above = absurd (false≢true above)
cuts_from (Extension wanted) (Prefix prefix) path one two above = absurd (false≢true above)
cuts_from (Extension wanted) (Extension other) path one two above = absurd (false≢true above)
cuts_from (Extension wanted) Default path one two above = not_from_false (list_any is_dot wanted) (undotted_extension wanted path one)
cuts_from Default Root path one two above = absurd (false≢true above)
cuts_from Default (Exact text) path one two above = absurd (false≢true above)
cuts_from Default (Prefix prefix) path one two above = absurd (false≢true above)
cuts_from Default (Extension wanted) path one two above = absurd (false≢true above)
cuts_from Default Default path one two above = absurd (false≢true above)

-- ---- A best match that is another pattern is narrower.
pub contains : (texts : List (List ℕ)) (text : List ℕ) → lists texts text ≡ true → Contains texts text
contains [] text there = absurd (false≢true there)
contains (x ∷ texts) text there =
    elim (or_cases (bytes_eq x text) (lists texts text) there) [
      | inl here ↦ (0, omega arith, is_at x text here)
      | inr later ↦ let it : Contains texts text = contains texts text later in (suc it.0, omega (arith, it.1), it.2)
    ]

above_at : (best pattern path : List ℕ) (above : Bool) → outranks best pattern ≡ above → outranks pattern best ≡ false → matches best path ≡ true → matches pattern path ≡ true → best ≢ pattern → above ≡ true
above_at best pattern path true is under one two apart = refl
above_at best pattern path false is under one two apart = absurd (apart (same_text best pattern path one two is under))

pub complete : BestIsAMatch → NarrowerAreComplete
complete best_is_a_match patterns pattern path best there at found apart =
    let match : Contains patterns best × (matches best path ≡ true) = best_is_a_match patterns path best found in
    let is : (is_best patterns path best ≡ true) × (lists patterns best ≡ true) = found_in (is_best patterns path) patterns best found in
    let under : outranks pattern best ≡ false = unbeaten_by_member patterns path best pattern is.0 (contains patterns pattern there) at in
    let above : outranks best pattern ≡ true = above_at best pattern path (outranks best pattern) refl under match.1 at apart in
    passing_lists (λ other. cuts (form other) (form pattern)) patterns best ∙ ap₂ (λ a b. a && b) is.1 (cuts_from (form best) (form pattern) path match.1 at above)

-- ---- A path at which a narrower pattern is chosen.
drop_past : (front : List ℕ) (c : ℕ) (rest : List ℕ) → drop (suc (length front)) (front ++ c ∷ rest) ≡ rest
drop_past [] c rest = refl
drop_past (b ∷ front) c rest = drop_past front c rest

module _ (test : ℕ → Bool) (front : List ℕ) (c : ℕ) (rest : List ℕ) (here : test c ≡ true) (none : list_any test rest ≡ false) where
  abbrev whole : List ℕ
  whole = front ++ c ∷ rest

  rest_fails : (j d : ℕ) → j < length rest → test (slice_index_or rest j d) ≡ false
  rest_fails j d within = false_from_ne_true (test (slice_index_or rest j d)) (λ h. false≢true (sym none ∙ list_any_at test rest j d within h))

  long : length whole ≡ length front + suc (length rest)
  long = length-append front (c ∷ rest)

  later_fails : (k : ℕ) → suc (length front) ≤ k → k < length whole → not (test (slice_index_or whole k 0)) ≡ true
  later_fails k from within =
      let j : ℕ = k - length front - 1 in
      let at : k - length front ≡ suc j = omega (arith, from) in
      let place : slice_index_or whole k 0 ≡ slice_index_or (c ∷ rest) (k - length front) 0 = get_or-append_right front (c ∷ rest) (length front) k 0 refl (omega (arith, from)) in
      let there : slice_index_or whole k 0 ≡ slice_index_or rest j 0 = place ∙ ap (λ n. slice_index_or (c ∷ rest) n 0) at in
      not_from_false (test (slice_index_or whole k 0)) (ap test there ∙ rest_fails j 0 (omega (arith, from, within, long, at)))

  here_passes : 0 < suc (length front) → not (test (slice_index_or whole (suc (length front) - 1) 0)) ≡ false
  here_passes some =
      let at : suc (length front) - 1 ≡ length front = omega arith in
      let place : slice_index_or whole (length front) 0 ≡ c = get_or_at front c rest 0 (length front) refl in
      not_from_true (test (slice_index_or whole (suc (length front) - 1) 0)) (ap (λ n. test (slice_index_or whole n 0)) at ∙ ap test place ∙ here)

  after_last_is : after_last test whole ≡ rest
  after_last_is =
      let len : suffix_len (λ b. not (test b)) whole ≡ length whole - suc (length front) = suffix_len_is (λ b. not (test b)) whole (suc (length front)) 0 (omega (arith, long)) later_fails here_passes in
      let at : length whole - suffix_len (λ b. not (test b)) whole ≡ suc (length front) = omega (arith, long, len) in
      ap (λ n. drop n whole) at ∙ drop_past front c rest

page_slashless : (wanted : List ℕ) → list_any is_slash wanted ≡ false → list_any is_slash (codes "page." ++ wanted) ≡ false
page_slashless wanted is = is

page_dotted : (wanted : List ℕ) → list_any is_dot (codes "page." ++ wanted) ≡ true
page_dotted wanted = refl

-- A page with the extension below a prefix.
abbrev page : List ℕ → List ℕ → List ℕ
page prefix wanted = prefix ++ 47 ∷ (codes "page." ++ wanted)

bytes_same : (text : List ℕ) → bytes_eq text text ≡ true
bytes_same text = (bytes_eq-Decides text text).1 refl

page_has : (prefix wanted : List ℕ) → list_any is_slash wanted ≡ false → list_any is_dot wanted ≡ false → has_extension wanted (page prefix wanted) ≡ true
page_has prefix wanted slashless dotless =
    let segment : last_segment (page prefix wanted) ≡ codes "page." ++ wanted = after_last_is is_slash prefix 47 (codes "page." ++ wanted) refl (page_slashless wanted slashless) in
    let end : after_last is_dot (codes "page." ++ wanted) ≡ wanted = after_last_is is_dot (codes "page") 46 wanted refl dotless in
    ap (λ part. option_map_or (λ found. bytes_eq found wanted) (cond (list_any is_dot part) (Some (after_last is_dot part)) None) false) segment
    ∙ ap (λ found. bytes_eq found wanted) end ∙ bytes_same wanted

page_below : (prefix wanted : List ℕ) → is_at_or_below prefix (page prefix wanted) ≡ true
page_below prefix wanted =
    or_right (bytes_eq (page prefix wanted) prefix) (starts_with nat_eq (page prefix wanted) (prefix ++ codes "/"))
    (starts_at (page prefix wanted) (prefix ++ 47 ∷ []) (codes "page." ++ wanted) (sym (append_assoc prefix (47 ∷ []) (codes "page." ++ wanted))))

itself_below : (prefix : List ℕ) → is_at_or_below prefix prefix ≡ true
itself_below prefix = or_left (bytes_eq prefix prefix) (starts_with nat_eq prefix (prefix ++ codes "/")) (bytes_same prefix)

abbrev has_no_slash : Form → Bool
has_no_slash Root = true
has_no_slash Default = true
has_no_slash (Extension wanted) = not (list_any is_slash wanted)
has_no_slash (Prefix prefix) = true
has_no_slash (Exact text) = true

abbrev IsChosen : Form → Form → Type 0
IsChosen first second = (path : List ℕ) × (form_matches second path ≡ true) × (form_matches first path ≡ true) × (is_above (form_rank first) (form_rank second) ≡ true)

chosen_from : (first second : Form) → has_no_slash first ≡ true → has_no_slash second ≡ true → cuts first second ≡ true → IsChosen first second
chosen_from Root Root p q is = absurd (false≢true is)
chosen_from Root (Exact text) p q is = absurd (false≢true is)
chosen_from Root (Prefix prefix) p q is = (codes "/", is, refl, refl)
chosen_from Root (Extension wanted) p q is = absurd (false≢true is)
chosen_from Root Default p q is = (codes "/", refl, refl, refl)
chosen_from (Exact text) Root p q is = absurd (false≢true is)
chosen_from (Exact text) (Exact other) p q is = absurd (false≢true is)
chosen_from (Exact text) (Prefix prefix) p q is = (text, is, bytes_same text, refl)
chosen_from (Exact text) (Extension wanted) p q is = (text, is, bytes_same text, refl)
chosen_from (Exact text) Default p q is = (text, refl, bytes_same text, refl)
chosen_from (Prefix longer) Root p q is = absurd (false≢true is)
chosen_from (Prefix longer) (Exact text) p q is = absurd (false≢true is)
chosen_from (Prefix longer) (Prefix prefix) p q is =
    let parts : (nat_lt (length prefix) (length longer) ≡ true) × (is_at_or_below prefix longer ≡ true) = and_parts (nat_lt (length prefix) (length longer)) (is_at_or_below prefix longer) is in
    (longer, parts.1, itself_below longer, parts.0)
chosen_from (Prefix longer) (Extension wanted) p q is = (page longer wanted, page_has longer wanted (not-true (list_any is_slash wanted) q) (not-true (list_any is_dot wanted) is), page_below longer wanted, refl)
chosen_from (Prefix longer) Default p q is = (longer, refl, itself_below longer, refl)
chosen_from (Extension wanted) Root p q is = absurd (false≢true is)
chosen_from (Extension wanted) (Exact text) p q is = absurd (false≢true is)
chosen_from (Extension wanted) (Prefix prefix) p q is = absurd (false≢true is)
chosen_from (Extension wanted) (Extension other) p q is = absurd (false≢true is)
chosen_from (Extension wanted) Default p q is = (page [] wanted, refl, page_has [] wanted (not-true (list_any is_slash wanted) p) (not-true (list_any is_dot wanted) is), refl)
chosen_from Default Root p q is = absurd (false≢true is)
chosen_from Default (Exact text) p q is = absurd (false≢true is)
chosen_from Default (Prefix prefix) p q is = absurd (false≢true is)
chosen_from Default (Extension wanted) p q is = absurd (false≢true is)
chosen_from Default Default p q is = absurd (false≢true is)

starred : (wanted : List ℕ) → is_pattern (42 ∷ 46 ∷ wanted) ≡ true → not (list_any is_slash wanted) ≡ true
starred wanted is = (and_parts (nat_le (length (42 ∷ 46 ∷ wanted)) MAX_PATTERN_BYTES) (not (list_any is_slash wanted)) is).1

slashless_at : (text : List ℕ) (its_form : Form) → form text ≡ its_form → is_pattern text ≡ true → has_no_slash its_form ≡ true
slashless_at text Root is accepted = refl
slashless_at text Default is accepted = refl
slashless_at text (Extension wanted) is accepted = starred wanted (ap is_pattern (ap form_text (sym is) ∙ form_text-form text) ∙ accepted)
slashless_at text (Prefix prefix) is accepted = refl
slashless_at text (Exact its_text) is accepted = refl

pub sound : NarrowerAreSound
sound patterns pattern other accepted also there =
    let parts : (lists patterns other ≡ true) × (cuts (form other) (form pattern) ≡ true) =
    and_parts (lists patterns other) (cuts (form other) (form pattern)) (sym (passing_lists (λ one. cuts (form one) (form pattern)) patterns other) ∙ there) in
    chosen_from (form other) (form pattern) (slashless_at other (form other) refl also) (slashless_at pattern (form pattern) refl accepted) parts.1
