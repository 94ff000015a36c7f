-- A path in which each byte may follow the one before it is its own canonical path.
use Rattle.std.proofs.Common.{ℕ, ◌≡◌, ◌<◌, Bool, true, false, not, ◌&&◌, ◌||◌, eqb, ltb, leb, List, [], ◌∷◌, ◌++◌, map, Ok, sym, refl, ap, ◌∙◌, ⊎_elim, arith, take, drop, append-nil, Option, Some, None, suc, add-one, take-append-drop}
use Rattle.std.specs.List.{All, list_any}
use Rattle.std.specs.Option.{option_map}
use Rattle.std.specs.Str.{bytes_eq}
use Rattle.std.proofs.lemmas.Bool.{cases_Bool, and_parts, and_from, or_parts, cond-true, cond-false, not-true, not-false, not_from_false, not_from_true, false_from_ne_true, false≢true, or_from, leb-true, ltb-true, ne_eqb, eqb-true, eq-eqb, le-ltb, lt-ltb}
use Rattle.std.proofs.lemmas.List.Elements.{All-nil, All-cons, All-head, All-tail, All-weaker}
use Rattle.std.proofs.lemmas.List.Folds.{list_any-append}
use Rattle.std.proofs.lemmas.List.Splits.{slice_split-cons_yes}
use Rattle.std.proofs.lemmas.Slice.Eq.{bytes_eq-Decides}
use Rattle.std.proofs.lemmas.Str.{IsUtf8-from_ascii, is_utf8-from_IsUtf8}
use Rattle.std.proofs.lemmas.Str.Ascii.{IsAscii-from_all}
use Rattle.sv_text.specs.Faults.{first_or}
use Rattle.sv_uri.specs.Target.{before, behind, between_slashes, visible_query}
use Rattle.sv_uri.specs.Segment.{is_control, is_empty, is_same, is_parent, name_of}
use Rattle.sv_uri.specs.DotSegments.{is_idle, removed_in_front, kept, remaining, climbs, closing}
use Rattle.sv_uri.specs.Canonical.{path_faults, path_text}
use Rattle.sv_uri.specs.Plain.{means_itself, may_follow, plain_len, marked, IsQueryAlone, HasParts}
use Rattle.sv_uri.proofs.AnswerLemmas.{target_answer}
use Rattle.sv_uri.proofs.TargetLemmas.{holds, slashed, segments_behind, before_none, behind_none, before-it, before-other, behind-it, behind-other, between_slashes-first, none_All}
use Rattle.sv_uri.proofs.SegmentLemmas.{IsPlain}
use Rattle.sv_uri.proofs.DotSegmentLemmas.{remaining-kept, removed-name}
use Rattle.sv_uri.proofs.ItsOwnLemmas.{parts_of, faultless_names}

-- One more byte at the front: a slash begins a segment, and any other byte belongs to the first segment.
more-slash : (b : ℕ) (text : List ℕ) → eqb b 47 ≡ true → between_slashes (b ∷ text) ≡ [] ∷ between_slashes text
more-slash b text it = slice_split-cons_yes (λ x. eqb x 47) b text it

more-other : (b : ℕ) (text : List ℕ) → eqb b 47 ≡ false → between_slashes (b ∷ text) ≡ (b ∷ before 47 text) ∷ segments_behind (behind 47 text)
more-other b text other = between_slashes-first (b ∷ text) ∙ rw (before-other 47 b text other, behind-other 47 b text other) refl

-- The segments make the path from which they were split.
slashed-between : (text : List ℕ) → slashed (between_slashes text) ≡ 47 ∷ text
slashed-between [] = refl
slashed-between (b ∷ text) =
    ⊎_elim
    (λ it. rw (more-slash b text it, slashed-between text, eqb-true b 47 it) refl)
    (λ other.
    let behind_it : slashed (before 47 text ∷ segments_behind (behind 47 text)) ≡ 47 ∷ text = ap slashed (sym (between_slashes-first text)) ∙ slashed-between text in
    rw (more-other b text other) cc)
    (cases_Bool (eqb b 47))

-- A test that passes for no byte of a text passes for no byte of its segments.
none_in_segments : (p : ℕ → Bool) (text : List ℕ) → list_any p text ≡ false → All (λ name. list_any p name ≡ false) (between_slashes text)
none_in_segments p [] none = All-cons (λ name. list_any p name ≡ false) [] [] refl (All-nil (λ name. list_any p name ≡ false))
none_in_segments p (b ∷ text) none =
    let P = λ (name : List ℕ). list_any p name ≡ false in
    let parts = or_parts (p b) (list_any p text) none in
    let rest = none_in_segments p text parts.1 in
    ⊎_elim
    (λ it. rw (more-slash b text it) (All-cons P [] (between_slashes text) refl rest))
    (λ other.
    let split = rw (between_slashes-first text) at rest in
    rw (more-other b text other)
    (All-cons P (b ∷ before 47 text) (segments_behind (behind 47 text)) (rw (parts.0, All-head P _ _ split) refl) (All-tail P _ _ split)))
    (cases_Bool (eqb b 47))

-- No segment has a slash.
slashless_segments : (text : List ℕ) → All (λ name. holds 47 name ≡ false) (between_slashes text)
slashless_segments [] = All-cons (λ name. holds 47 name ≡ false) [] [] refl (All-nil (λ name. holds 47 name ≡ false))
slashless_segments (b ∷ text) =
    let P = λ (name : List ℕ). holds 47 name ≡ false in
    let rest = slashless_segments text in
    ⊎_elim
    (λ it. rw (more-slash b text it) (All-cons P [] (between_slashes text) refl rest))
    (λ other.
    let split = rw (between_slashes-first text) at rest in
    rw (more-other b text other)
    (All-cons P (b ∷ before 47 text) (segments_behind (behind 47 text)) (rw (other, All-head P _ _ split) refl) (All-tail P _ _ split)))
    (cases_Bool (eqb b 47))

-- Each byte may follow the one before it, and the first may follow this byte.
abbrev pub all_follow : ℕ → List ℕ → Bool
all_follow last [] = true
all_follow last (b ∷ rest) = may_follow last b && all_follow b rest

-- A test that passes for no byte that means itself passes for no byte of a plain path.
none_follows : (p : ℕ → Bool) → ((b : ℕ) → means_itself b ≡ true → p b ≡ false) → (last : ℕ) (text : List ℕ) → all_follow last text ≡ true → list_any p text ≡ false
none_follows p never last [] all = refl
none_follows p never last (b ∷ text) all =
    let parts = and_parts (may_follow last b) (all_follow b text) all in
    let own = and_parts (means_itself b) _ parts.0 in
    rw (never b own.0, none_follows p never b text parts.1) refl

-- The segment has a first byte, which is not a dot.
abbrev begins_a_name : List ℕ → Bool
begins_a_name [] = false
begins_a_name (b ∷ _) = not (eqb b 46)

-- Each segment begins a name, except a last one that is empty.
abbrev are_names : List (List ℕ) → Bool
are_names [] = true
are_names (name ∷ []) = is_empty name || begins_a_name name
are_names (name ∷ next ∷ rest) = begins_a_name name && are_names (next ∷ rest)

-- The bytes after the first byte of a segment do not matter.
same_begin : (b : ℕ) (one other : List ℕ) (rest : List (List ℕ)) → eqb b 46 ≡ false → are_names ((b ∷ one) ∷ rest) ≡ true → are_names ((b ∷ other) ∷ rest) ≡ true
same_begin b one other [] no_dot all = rw no_dot refl
same_begin b one other (next ∷ rest) no_dot all = all

-- A segment of one byte that is not a dot, before segments that begin names.
begun : (first : ℕ) (text : List ℕ) → eqb first 46 ≡ false → are_names (between_slashes text) ≡ true → are_names ((first ∷ []) ∷ between_slashes text) ≡ true
begun first text no_dot names =
    let split = rw (between_slashes-first text) at names in
    rw (between_slashes-first text, no_dot) split

-- The segments of a plain path begin names, also if the first byte of the first segment was already read.
names_at : (text : List ℕ) → (all_follow 47 text ≡ true → are_names (between_slashes text) ≡ true) × ((first last : ℕ) → eqb first 46 ≡ false → all_follow last text ≡ true → are_names ((first ∷ before 47 text) ∷ segments_behind (behind 47 text)) ≡ true)
names_at [] = (λ _. refl, λ first last no_dot _. rw no_dot refl)
names_at (b ∷ text) =
    let rest = names_at text in (
      λ all.
          let parts = and_parts (may_follow 47 b) (all_follow b text) all in
          let own = or_parts (eqb b 47) (eqb b 46) (not-true _ (and_parts (means_itself b) _ parts.0).1) in
          rw (more-other b text own.0) (rest.1 b b own.1 parts.1),
      λ first last no_dot all.
          let parts = and_parts (may_follow last b) (all_follow b text) all in
          ⊎_elim
          (λ it.
          let names = rest.0 (rw (eqb-true b 47 it) at parts.1) in
          rw (before-it 47 b text it, behind-it 47 b text it) (begun first text no_dot names))
          (λ other. rw (before-other 47 b text other, behind-other 47 b text other) (same_begin first (before 47 text) (b ∷ before 47 text) _ no_dot (rest.1 first b no_dot parts.1)))
          (cases_Bool (eqb b 47)),
    )

first_is : (a b : ℕ) (xs ys : List ℕ) → a ∷ xs ≡ b ∷ ys → eqb a b ≡ true
first_is a b xs ys same = eq-eqb a b cc

-- A segment that begins a name is neither empty nor a dot segment.
begun_is_kept : (name : List ℕ) → begins_a_name name ≡ true → (is_idle name ≡ false) × (is_parent name ≡ false)
begun_is_kept [] begins = cc
begun_is_kept (b ∷ name) begins =
    let no_dot = not-true _ begins in
    let differs = λ (more : List ℕ). false_from_ne_true (bytes_eq (b ∷ name) (46 ∷ more)) (λ same. false≢true (sym no_dot ∙ first_is b 46 name more ((bytes_eq-Decides (b ∷ name) (46 ∷ more)).0 same))) in
    (or_from (is_empty (b ∷ name)) (is_same (b ∷ name)) refl (differs []), differs (46 ∷ []))

-- Names that all remain, since nothing is removed before them. An empty last one leaves the path open.
record AreAllLeft (names : List (List ℕ)) : Type 0 where
  unmoved : removed_in_front (kept names) ≡ 0
  same : parts_of names ≡ names

one_left : (name : List ℕ) → (is_empty name || begins_a_name name) ≡ true → AreAllLeft (name ∷ [])
one_left [] names = record { unmoved = refl; same = refl }
one_left (b ∷ name) names =
    let begins : begins_a_name (b ∷ name) ≡ true = names in
    let own = begun_is_kept (b ∷ name) begins in
    let stays : kept ((b ∷ name) ∷ []) ≡ (b ∷ name) ∷ [] = cond-true _ _ _ (not_from_false _ own.0) in
    let closed : closing ((b ∷ name) ∷ []) ≡ [] = cond-false _ _ _ (or_from _ _ own.0 own.1) in
    record {
      unmoved = ap removed_in_front stays ∙ removed-name (b ∷ name) [] own.1;
      same = ap (λ left. remaining left ++ closing ((b ∷ name) ∷ [])) stays ∙ ap (λ left. left ++ closing ((b ∷ name) ∷ [])) (remaining-kept (b ∷ name) [] own.1 (omega arith)) ∙ ap (λ end. (b ∷ name) ∷ end) closed;
    }

all_left : (names : List (List ℕ)) → are_names names ≡ true → AreAllLeft names
all_left [] names = record { unmoved = refl; same = refl }
all_left (name ∷ []) names = one_left name names
all_left (name ∷ next ∷ rest) names =
    let tests = and_parts (begins_a_name name) (are_names (next ∷ rest)) names in
    let own = begun_is_kept name tests.0 in
    let behind_it = all_left (next ∷ rest) tests.1 in
    let stays : kept (name ∷ next ∷ rest) ≡ name ∷ kept (next ∷ rest) = cond-true _ _ _ (not_from_false _ own.0) in
    record {
      unmoved = ap removed_in_front stays ∙ removed-name name (kept (next ∷ rest)) own.1 ∙ rw behind_it.unmoved refl;
      same = ap (λ left. remaining left ++ closing (name ∷ next ∷ rest)) stays ∙ ap (λ left. left ++ closing (next ∷ rest)) (remaining-kept name (kept (next ∷ rest)) own.1 (rw behind_it.unmoved (omega arith))) ∙ ap (λ left. name ∷ left) behind_it.same;
    }

-- A byte that means itself is an ASCII byte without any special meaning.
never : (b : ℕ) → means_itself b ≡ true → (eqb b 37 ≡ false) × (eqb b 59 ≡ false) × (eqb b 92 ≡ false) × (is_control b ≡ false) × (ltb b 128 ≡ true) × (eqb b 63 ≡ false) × (eqb b 35 ≡ false)
never b own =
    let outer = and_parts (leb 32 b && leb b 126) _ own in
    let range = and_parts (leb 32 b) (leb b 126) outer.0 in
    let low = leb-true 32 b range.0 in
    let high = leb-true b 126 range.1 in
    let to_mark = or_parts _ (eqb b 35) (not-true _ outer.1) in
    let to_backslash = or_parts _ (eqb b 63) to_mark.0 in
    let others = or_parts (eqb b 37 || eqb b 59) (eqb b 92) to_backslash.0 in
    let front = or_parts (eqb b 37) (eqb b 59) others.0 in
    (front.0, front.1, others.1, or_from (ltb b 32) (eqb b 127) (le-ltb b 32 low) (ne_eqb b 127 (λ it. omega (arith, it))), lt-ltb b 128 (omega arith), to_backslash.1, to_mark.1)

all_plain : (names : List (List ℕ)) → All (λ name. holds 47 name ≡ false) names → All (λ name. holds 92 name ≡ false) names → All (λ name. list_any is_control name ≡ false) names → All (λ name. list_any (λ b. not (ltb b 128)) name ≡ false) names → All IsPlain names
all_plain [] slashless backslashless visible ascii = All-nil IsPlain
all_plain (name ∷ rest) slashless backslashless visible ascii =
    let low = none_All (λ b. not (ltb b 128)) name (All-head (λ x. list_any (λ b. not (ltb b 128)) x ≡ false) name rest ascii) in
    let all_low = All-weaker (λ b. not (ltb b 128) ≡ false) (λ b. b < 128) (λ b own. ltb-true b 128 (not-false _ own)) name low in
    All-cons IsPlain name rest
    (record {
      slash = All-head (λ x. holds 47 x ≡ false) name rest slashless;
      backslash = All-head (λ x. holds 92 x ≡ false) name rest backslashless;
      control = All-head (λ x. list_any is_control x ≡ false) name rest visible;
      utf8 = is_utf8-from_IsUtf8 name (IsUtf8-from_ascii name (IsAscii-from_all name all_low));
    })
    (all_plain rest (All-tail (λ x. holds 47 x ≡ false) name rest slashless) (All-tail (λ x. holds 92 x ≡ false) name rest backslashless) (All-tail (λ x. list_any is_control x ≡ false) name rest visible) (All-tail (λ x. list_any (λ b. not (ltb b 128)) x ≡ false) name rest ascii))

-- If the bytes after the first slash are plain, they and the slash are the canonical path.
pub plain_is_its_own : (path : List ℕ) → all_follow 47 path ≡ true → first_or (path_faults (between_slashes path)) (path_text (between_slashes path)) ≡ Ok (47 ∷ path)
plain_is_its_own path plain =
    let names = between_slashes path in
    let none = λ (p : ℕ → Bool) (is : (b : ℕ) → means_itself b ≡ true → p b ≡ false). none_in_segments p path (none_follows p is 47 path plain) in
    let all = all_plain names (slashless_segments path) (none (λ b. eqb b 92) (λ b own. (never b own).2)) (none is_control (λ b own. (never b own).3)) (none (λ b. not (ltb b 128)) (λ b own. not_from_true _ (never b own).4)) in
    let again = faultless_names names all (none (λ b. eqb b 37) (λ b own. (never b own).0)) (none (λ b. eqb b 59) (λ b own. (never b own).1)) in
    let left = all_left names ((names_at path).0 plain) in
    let unclimbed : climbs (kept (map name_of names)) ≡ false = rw (again.1, left.unmoved) refl in
    let faultless : path_faults names ≡ [] = rw (again.0, unclimbed) refl in
    let text : path_text names ≡ 47 ∷ path = rw (again.1, left.same) (slashed-between path) in
    ap (λ faults. first_or faults (path_text names)) faultless ∙ ap Ok text

-- In the front before the first byte that may not follow, each byte may follow the one before it.
front_follows : (last : ℕ) (text : List ℕ) → all_follow last (take (plain_len last text) text) ≡ true
front_follows last [] = refl
front_follows last (b ∷ text) =
    ⊎_elim
    (λ may.
    let one_more : plain_len last (b ∷ text) ≡ suc (plain_len b text) = cond-true _ _ _ may ∙ omega arith in
    ap (λ n. all_follow last (take n (b ∷ text))) one_more ∙ and_from (may_follow last b) _ may (front_follows b text))
    (λ stops. ap (λ n. all_follow last (take n (b ∷ text))) (cond-false _ _ _ stops))
    (cases_Bool (may_follow last b))

-- A front without `?` and the query after it are the parts at the first `?`.
parts_at_mark : (front query : List ℕ) → holds 63 front ≡ false → (before 63 (front ++ 63 ∷ query) ≡ front) × (behind 63 (front ++ 63 ∷ query) ≡ Some query)
parts_at_mark [] query none = (before-it 63 63 query refl, behind-it 63 63 query refl)
parts_at_mark (b ∷ front) query none =
    let parts = or_parts (eqb b 63) (holds 63 front) none in
    let rest = parts_at_mark front query parts.1 in
    (before-other 63 b (front ++ 63 ∷ query) parts.0 ∙ ap (λ x. b ∷ x) rest.0, behind-other 63 b (front ++ 63 ∷ query) parts.0 ∙ rest.1)

-- The same with or without a query.
parts_of_front : (front : List ℕ) (query : Option (List ℕ)) → holds 63 front ≡ false → (before 63 (front ++ marked query) ≡ front) × (behind 63 (front ++ marked query) ≡ query)
parts_of_front front None none = (ap (before 63) (append-nil front) ∙ before_none 63 front none, ap (behind 63) (append-nil front) ∙ behind_none 63 front none)
parts_of_front front (Some query) none = parts_at_mark front query none

-- A plain path and the query after it are the parts of the target.
plain_answer : (front : List ℕ) (query : Option (List ℕ)) → all_follow 47 front ≡ true → holds 35 (marked query) ≡ false → HasParts (47 ∷ front ++ marked query) (47 ∷ front) query
plain_answer front query plain no_fragment =
    let unmarked = none_follows (λ b. eqb b 63) (λ b own. (never b own).5) 47 front plain in
    let unfragmented = none_follows (λ b. eqb b 35) (λ b own. (never b own).6) 47 front plain in
    let parts = parts_of_front front query unmarked in
    let none : holds 35 (47 ∷ front ++ marked query) ≡ false = list_any-append (λ b. eqb b 35) front (marked query) ∙ rw (unfragmented, no_fragment) refl in
    target_answer _ (front ++ marked query) front (47 ∷ front) (option_map visible_query query) none refl (sym parts.0) (plain_is_its_own front plain) (ap (option_map visible_query) (sym parts.1))

pub parts_answer : (target path rest back : List ℕ) (query : Option (List ℕ)) → target ≡ 47 ∷ rest → path ≡ take (plain_len 0 target) target → back ≡ drop (plain_len 0 target) target → IsQueryAlone back query → HasParts target path query
parts_answer target path rest back query slash is_path is_back alone =
    let n = plain_len 47 rest in
    let one_more : plain_len 0 target ≡ suc n = ap (plain_len 0) slash ∙ add-one n in
    let is_front : path ≡ 47 ∷ take n rest = is_path ∙ ap (λ k. take k target) one_more ∙ ap (take (suc n)) slash in
    let is_rest : drop n rest ≡ marked query = sym (is_back ∙ ap (λ k. drop k target) one_more ∙ ap (drop (suc n)) slash) ∙ alone.0 in
    let whole : target ≡ 47 ∷ take n rest ++ marked query = slash ∙ ap (λ xs. 47 ∷ xs) (sym (take-append-drop n rest) ∙ ap (λ xs. take n rest ++ xs) is_rest) in
    rw (is_front, whole) (plain_answer (take n rest) query (front_follows 47 rest) (ap (list_any (λ b. eqb b 35)) (sym alone.0) ∙ alone.1))
