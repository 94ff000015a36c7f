-- A path in the same folder as a path of requests, with a plain name and the same end, is a path of requests.
use Rattle.std.proofs.Common.{ℕ, ◌≡◌, ◌+◌, ◌-◌, ◌<◌, Bool, true, false, not, ◌&&◌, ◌||◌, ◌==◌, eqb, ltb, inl, inr, ◌⊎◌, List, [], ◌∷◌, ◌++◌, length, drop, take, get_or, append-nil, append_assoc, length-append, None, sym, refl, ap, subst, ◌∙◌, ⊎_elim, arith, suc, IsUtf8, ltb}
use Rattle.std.specs.List.{All, list_all, onto_first}
use Rattle.std.specs.Str.{bytes_eq, is_utf8}
use Rattle.std.proofs.lemmas.Bool.{cases_Bool, and_from, and_parts, agree_below_at, eq-eqb, eqb-true, false_from_ne_true, false≢true, ltb-true, not-true, or_from}
use Rattle.std.proofs.lemmas.List.Elements.{All-nil, All-cons, All-head, All-tail, All-append}
use Rattle.std.proofs.lemmas.List.Folds.{list_all-append, list_any-append}
use Rattle.std.proofs.lemmas.List.Splits.{length-slice_split, slice_split-cons_yes, slice_split-cons_no}
use Rattle.std.proofs.lemmas.List.Sums.{list_all-from_AllPass}
use Rattle.std.proofs.Math.Seq.{get_or-append_seam}
use Rattle.std.proofs.lemmas.List.{take_at}
use Rattle.std.proofs.lemmas.Slice.Eq.{bytes_eq-Decides}
use Rattle.std.proofs.lemmas.Str.{IsCharBoundary-after_ascii, IsCharBoundary-before_ascii, IsUtf8-append, IsUtf8-drop, IsUtf8-from_ascii, IsUtf8-nil, IsUtf8-take, is_utf8-from_IsUtf8}
use Rattle.std.proofs.lemmas.Str.Ascii.{IsAscii-from_all}
use Rattle.sv_uri.specs.LocationField.{LocationIsReadBack, location}
use Rattle.sv_uri.specs.Segment.{is_empty}
use Rattle.sv_uri.specs.Shape.{CanonicalHasShape, IsCanonicalPath, is_dot_segment, may_stand_in_a_path}
use Rattle.sv_uri.specs.Target.{between_slashes}
use Rattle.sv_audit.proofs.ExampleLemmas.{itself, own}
use Rattle.sv_audit.proofs.Shapes.{split_at_slash}
use Rattle.sv_audit.proofs.Written.{IsName, canonical_names, holds, slashed, target_of}
use Rattle.sv_audit.specs.Examples.{gives_only, is_read_back}

-- ---- A text cut at an ASCII byte.
cut_text : (xs : List ℕ) (b : ℕ) (ys : List ℕ) → b < 128 → IsUtf8 (xs ++ b ∷ ys) → IsUtf8 xs × IsUtf8 ys
cut_text xs b ys small text =
    let all = xs ++ b ∷ ys in
    let within : length xs < length all = omega (arith, length-append xs (b ∷ ys)) in
    let at : get_or all (length xs) 0 < 128 = subst (λ n. n < 128) (sym (get_or-append_seam xs b ys 0)) small in (
      subst IsUtf8 (take_at xs (b ∷ ys) (length xs) refl) (IsUtf8-take all (length xs) text (IsCharBoundary-before_ascii all (length xs) within at)),
      subst IsUtf8 (behind_byte xs b ys) (IsUtf8-drop all (length xs + 1) text (IsCharBoundary-after_ascii all (length xs) text within at)),
    )
  where
    behind_byte : (front : List ℕ) (c : ℕ) (back : List ℕ) → drop (length front + 1) (front ++ c ∷ back) ≡ back
    behind_byte [] c back = refl
    behind_byte (x ∷ front) c back = let more : length (x ∷ front) + 1 ≡ suc (length front + 1) = omega arith in ap (λ n. drop n (x ∷ (front ++ c ∷ back))) more ∙ behind_byte front c back

-- ---- The segments of a text.
some_parts : (text : List ℕ) → 0 < length (between_slashes text)
some_parts text = omega (arith, length-slice_split (λ b. eqb b 47) text)

module _ (P : List ℕ → Type 0) (test : ℕ → Bool) (nil : P []) (step : (b : ℕ) (part : List ℕ) → eqb b 47 ≡ false → test b ≡ true → P part → P (b ∷ part)) where
  onto : (b : ℕ) (parts : List (List ℕ)) → 0 < length parts → eqb b 47 ≡ false → test b ≡ true → All P parts → All P (onto_first b parts)
  onto b [] some other passes all = absurd (omega (arith, some))
  onto b (part ∷ parts) some other passes all = All-cons P (b ∷ part) parts (step b part other passes (All-head P part parts all)) (All-tail P part parts all)

  each_part : (text : List ℕ) → list_all test text ≡ true → All P (between_slashes text)
  each_part [] all = All-cons P [] [] nil (All-nil P)
  each_part (b ∷ text) all =
      let parts = and_parts (test b) (list_all test text) all in
      ⊎_elim
      (λ it. rw (slice_split-cons_yes (λ x. eqb x 47) b text it) (All-cons P [] (between_slashes text) nil (each_part text parts.1)))
      (λ other. rw (slice_split-cons_no (λ x. eqb x 47) b text other) (onto b (between_slashes text) (some_parts text) other parts.0 (each_part text parts.1)))
      (cases_Bool (eqb b 47))

every : (text : List ℕ) → list_all (λ b. true) text ≡ true
every [] = refl
every (b ∷ text) = every text

slashless_parts : (text : List ℕ) → All (λ part. holds 47 part ≡ false) (between_slashes text)
slashless_parts text = each_part (λ part. holds 47 part ≡ false) (λ b. true) refl (λ b part other passes rest. or_from _ _ other rest) text (every text)

plain_parts : (text : List ℕ) → list_all may_stand_in_a_path text ≡ true → All (λ part. list_all may_stand_in_a_path part ≡ true) (between_slashes text)
plain_parts text all = each_part (λ part. list_all may_stand_in_a_path part ≡ true) may_stand_in_a_path refl (λ b part other passes rest. and_from _ _ passes rest) text all

onto_joined : (b : ℕ) (parts : List (List ℕ)) (text : List ℕ) → 0 < length parts → slashed parts ≡ 47 ∷ text → slashed (onto_first b parts) ≡ 47 ∷ b ∷ text
onto_joined b [] text some is = absurd (omega (arith, some))
onto_joined b (part ∷ parts) text some is = let rest : part ++ slashed parts ≡ text = cc in ap (λ xs. 47 ∷ b ∷ xs) rest

-- The segments, joined, are the text after a slash.
joined : (text : List ℕ) → slashed (between_slashes text) ≡ 47 ∷ text
joined [] = refl
joined (b ∷ text) =
    ⊎_elim
    (λ it. rw (slice_split-cons_yes (λ x. eqb x 47) b text it, eqb-true b 47 it) (ap (λ xs. 47 ∷ xs) (joined text)))
    (λ other. rw (slice_split-cons_no (λ x. eqb x 47) b text other) (onto_joined b (between_slashes text) text (some_parts text) (joined text)))
    (cases_Bool (eqb b 47))

text_parts : (part : List ℕ) (parts : List (List ℕ)) → IsUtf8 (part ++ slashed parts) → All (λ one. is_utf8 one ≡ true) (part ∷ parts)
text_parts part [] text =
    All-cons (λ one. is_utf8 one ≡ true) part [] (is_utf8-from_IsUtf8 part (subst IsUtf8 (append-nil part) text)) (All-nil (λ one. is_utf8 one ≡ true))
text_parts part (next ∷ parts) text =
    let at = cut_text part 47 (next ++ slashed parts) (omega arith) text in
    All-cons (λ one. is_utf8 one ≡ true) part (next ∷ parts) (is_utf8-from_IsUtf8 part at.0) (text_parts next parts at.1)

text_each : (text : List ℕ) (parts : List (List ℕ)) → 0 < length parts → slashed parts ≡ 47 ∷ text → IsUtf8 text → All (λ one. is_utf8 one ≡ true) parts
text_each text [] some is it = absurd (omega (arith, some))
text_each text (part ∷ parts) some is it = let rest : part ++ slashed parts ≡ text = cc in text_parts part parts (subst IsUtf8 (sym rest) it)

-- ---- The names of a folder.
all_front : {X : Type 0} (P : X → Type 0) (xs ys : List X) → All P (xs ++ ys) → All P xs
all_front P [] ys all = All-nil P
all_front P (x ∷ xs) ys all = All-cons P x xs (All-head P x (xs ++ ys) all) (all_front P xs ys (All-tail P x (xs ++ ys) all))

front_taken : {X : Type 0} (P : X → Type 0) (xs ys : List X) → 0 < length ys → All P (take (length (xs ++ ys) - 1) (xs ++ ys)) → All P xs
front_taken P [] ys some all = All-nil P
front_taken P (x ∷ xs) ys some all =
    let one_more : length (x ∷ (xs ++ ys)) - 1 ≡ suc (length (xs ++ ys) - 1) = omega (arith, some, length-append xs ys) in
    let whole : All P (x ∷ take (length (xs ++ ys) - 1) (xs ++ ys)) = subst (λ n. All P (take n (x ∷ (xs ++ ys)))) one_more all in
    All-cons P x xs (All-head P x (take (length (xs ++ ys) - 1) (xs ++ ys)) whole) (front_taken P xs ys some (All-tail P x (take (length (xs ++ ys) - 1) (xs ++ ys)) whole))

names_from : (parts : List (List ℕ)) → All (λ part. holds 47 part ≡ false) parts → All (λ part. list_all may_stand_in_a_path part ≡ true) parts → All (λ part. is_utf8 part ≡ true) parts
    → All (λ part. not (is_empty part) ≡ true) parts → All (λ part. not (is_dot_segment part) ≡ true) parts → All IsName parts
names_from [] slashless plain text filled undotted = All-nil IsName
names_from (part ∷ parts) slashless plain text filled undotted =
    All-cons IsName part parts
    (record {
      slash = All-head (λ one. holds 47 one ≡ false) part parts slashless;
      plain = All-head (λ one. list_all may_stand_in_a_path one ≡ true) part parts plain;
      utf8 = All-head (λ one. is_utf8 one ≡ true) part parts text;
      filled = not-true _ (All-head (λ one. not (is_empty one) ≡ true) part parts filled);
      undotted = not-true _ (All-head (λ one. not (is_dot_segment one) ≡ true) part parts undotted);
    })
    (names_from parts (All-tail (λ one. holds 47 one ≡ false) part parts slashless) (All-tail (λ one. list_all may_stand_in_a_path one ≡ true) part parts plain) (All-tail (λ one. is_utf8 one ≡ true) part parts text)
    (All-tail (λ one. not (is_empty one) ≡ true) part parts filled) (All-tail (λ one. not (is_dot_segment one) ≡ true) part parts undotted))

-- The names of the folder that a path of requests is in, without its first slash.
folder_names : (folder more : List ℕ) → IsCanonicalPath (47 ∷ (folder ++ 47 ∷ more)) → All IsName (between_slashes folder)
folder_names folder more shape =
    let whole = folder ++ 47 ∷ more in
    let parts : between_slashes whole ≡ between_slashes folder ++ between_slashes more = split_at_slash folder more in
    let plain : list_all may_stand_in_a_path whole ≡ true = list_all-from_AllPass may_stand_in_a_path whole (All-tail (λ b. may_stand_in_a_path b ≡ true) 47 whole shape.plain) in
    let text : IsUtf8 whole = (cut_text [] 47 whole (omega arith) shape.text).1 in
    names_from (between_slashes folder) (slashless_parts folder)
    (plain_parts folder (and_parts (list_all may_stand_in_a_path folder) (list_all may_stand_in_a_path (47 ∷ more)) (sym (list_all-append may_stand_in_a_path folder (47 ∷ more)) ∙ plain)).0)
    (text_each folder (between_slashes folder) (some_parts folder) (joined folder) (cut_text folder 47 more (omega arith) text).0)
    (front_taken (λ one. not (is_empty one) ≡ true) (between_slashes folder) (between_slashes more) (some_parts more)
    (subst (λ (all : List (List ℕ)). All (λ one. not (is_empty one) ≡ true) (take (length all - 1) all)) parts shape.filled))
    (all_front (λ one. not (is_dot_segment one) ≡ true) (between_slashes folder) (between_slashes more) (subst (All (λ one. not (is_dot_segment one) ≡ true)) parts shape.undotted))

-- ---- A name of letters, and an end.
abbrev pub is_letter : ℕ → Bool
is_letter b = ltb 96 b && ltb b 123

pub record IsPlainName (name : List ℕ) : Type 0 where
  pub first : ℕ
  pub more : List ℕ
  pub is : name ≡ first ∷ more
  pub letters : list_all is_letter name ≡ true

-- Nothing, or a text after a dot, without a slash.
pub record IsEnd (path ending : List ℕ) : Type 0 where
  pub start : List ℕ
  pub whole : path ≡ start ++ ending
  pub dotted : (ending ≡ []) ⊎ ((wanted : List ℕ) × (ending ≡ 46 ∷ wanted))
  pub slashless : holds 47 ending ≡ false

small_letter : (b : ℕ) → is_letter b ≡ true → b < 123
small_letter b is = ltb-true b 123 (and_parts (ltb 96 b) (ltb b 123) is).1

letter_is : (test : ℕ → Bool) → ((b : ℕ) → b < 123 → (not (is_letter b) || test b) ≡ true) → (b : ℕ) → is_letter b ≡ true → test b ≡ true
letter_is test all b is = sym (ap (λ letter. not letter || test b) is) ∙ all b (small_letter b is)

letter_stands : (b : ℕ) → is_letter b ≡ true → may_stand_in_a_path b ≡ true
letter_stands = letter_is may_stand_in_a_path (λ b small. agree_below_at (λ x. not (is_letter x) || may_stand_in_a_path x) (λ x. true) 123 b refl small)

letter_no_slash : (b : ℕ) → is_letter b ≡ true → not (eqb b 47) ≡ true
letter_no_slash = letter_is (λ b. not (eqb b 47)) (λ b small. agree_below_at (λ x. not (is_letter x) || not (eqb x 47)) (λ x. true) 123 b refl small)

letter_no_dot : (b : ℕ) → is_letter b ≡ true → not (eqb b 46) ≡ true
letter_no_dot = letter_is (λ b. not (eqb b 46)) (λ b small. agree_below_at (λ x. not (is_letter x) || not (eqb x 46)) (λ x. true) 123 b refl small)

letters_stand : (name : List ℕ) → list_all is_letter name ≡ true → (list_all may_stand_in_a_path name ≡ true) × (holds 47 name ≡ false) × All (λ b. b < 128) name
letters_stand [] letters = (refl, refl, All-nil (λ b. b < 128))
letters_stand (b ∷ name) letters =
    let parts = and_parts (is_letter b) (list_all is_letter name) letters in
    let rest = letters_stand name parts.1 in
    let small = small_letter b parts.0 in
    (and_from _ _ (letter_stands b parts.0) rest.0, or_from _ _ (not-true _ (letter_no_slash b parts.0)) rest.1, All-cons (λ c. c < 128) b name (omega (arith, small)) rest.2)

end_text : (path ending : List ℕ) → IsUtf8 path → IsEnd path ending → IsUtf8 ending
end_text path ending text end =
    elim end.dotted [
      | inl none ↦ subst IsUtf8 (sym none) IsUtf8-nil
      | inr more ↦
          let whole : path ≡ end.start ++ 46 ∷ more.0 = end.whole ∙ ap (λ xs. end.start ++ xs) more.1 in
          subst IsUtf8 (sym more.1) (IsUtf8-append (46 ∷ []) more.0 (IsUtf8-from_ascii (46 ∷ []) (IsAscii-from_all (46 ∷ []) (All-cons (λ b. b < 128) 46 [] (omega arith) (All-nil (λ b. b < 128))))) (cut_text end.start 46 more.0 (omega arith) (subst IsUtf8 whole text)).1)
    ]

no_dot_segment : (first : ℕ) (rest : List ℕ) → eqb first 46 ≡ false → is_dot_segment (first ∷ rest) ≡ false
no_dot_segment first rest other =
    or_from _ _ (differs []) (differs (46 ∷ []))
  where
    first_is : (a b : ℕ) (xs ys : List ℕ) → a ∷ xs ≡ b ∷ ys → eqb a b ≡ true
    first_is a b xs ys same = eq-eqb a b cc

    differs : (more : List ℕ) → bytes_eq (first ∷ rest) (46 ∷ more) ≡ false
    differs more = false_from_ne_true _ (λ same. false≢true (sym other ∙ first_is first 46 rest more ((bytes_eq-Decides (first ∷ rest) (46 ∷ more)).0 same)))

new_name : (path name ending : List ℕ) → IsCanonicalPath path → IsPlainName name → IsEnd path ending → IsName (name ++ ending)
new_name path name ending shape it end =
    let stands = letters_stand name it.letters in
    let plain : list_all may_stand_in_a_path (end.start ++ ending) ≡ true = ap (list_all may_stand_in_a_path) (sym end.whole) ∙ list_all-from_AllPass may_stand_in_a_path path shape.plain in
    let first : is_letter it.first ≡ true = (and_parts (is_letter it.first) (list_all is_letter it.more) (sym (ap (list_all is_letter) it.is) ∙ it.letters)).0 in
    let whole : name ++ ending ≡ it.first ∷ (it.more ++ ending) = ap (λ xs. xs ++ ending) it.is in
    record {
      slash = list_any-append (λ b. b == 47) name ending ∙ or_from _ _ stands.1 end.slashless;
      plain = list_all-append may_stand_in_a_path name ending ∙ and_from _ _ stands.0 (and_parts (list_all may_stand_in_a_path end.start) (list_all may_stand_in_a_path ending) (sym (list_all-append may_stand_in_a_path end.start ending) ∙ plain)).1;
      utf8 = is_utf8-from_IsUtf8 (name ++ ending) (IsUtf8-append name ending (IsUtf8-from_ascii name (IsAscii-from_all name stands.2)) (end_text path ending shape.text end));
      filled = ap is_empty whole ∙ refl;
      undotted = ap is_dot_segment whole ∙ no_dot_segment it.first (it.more ++ ending) (not-true _ (letter_no_dot it.first first));
    }

-- ---- The path.
slashed_more : (names : List (List ℕ)) (last : List ℕ) → slashed (names ++ last ∷ []) ≡ slashed names ++ 47 ∷ last
slashed_more [] last = append-nil (47 ∷ last)
slashed_more (name ∷ names) last = ap (λ xs. 47 ∷ (name ++ xs)) (slashed_more names last) ∙ ap (λ xs. 47 ∷ xs) (sym (append_assoc name (slashed names) (47 ∷ last)))

names_read_back : LocationIsReadBack → (path : List ℕ) (names : List (List ℕ)) → 0 < length names → slashed names ≡ path → All IsName names → is_read_back path ≡ true
unfolding is_read_back
names_read_back reads path [] some is are = absurd (omega (arith, some))
names_read_back reads path (name ∷ names) some is are =
    ap is_read_back (sym is) ∙ (ap (gives_only (slashed (name ∷ names))) (reads (target_of (name ∷ names)) (record { path = slashed (name ∷ names); query = None }) (canonical_names name names are)) ∙ itself (slashed (name ∷ names)))

module _ (shapes : CanonicalHasShape) (reads : LocationIsReadBack) (more name ending : List ℕ) (it : IsPlainName name) where
  folder_read_back : (folder : List ℕ) → is_read_back (47 ∷ (folder ++ 47 ∷ more)) ≡ true → IsEnd (47 ∷ (folder ++ 47 ∷ more)) ending → is_read_back (47 ∷ (folder ++ 47 ∷ (name ++ ending))) ≡ true
  folder_read_back folder given end =
      let path = 47 ∷ (folder ++ 47 ∷ more) in
      let shape : IsCanonicalPath path = shapes (location path) (record { path = path; query = None }) (own path given) in
      let names = between_slashes folder ++ (name ++ ending) ∷ [] in
      names_read_back reads (47 ∷ (folder ++ 47 ∷ (name ++ ending))) names (omega (arith, length-append (between_slashes folder) ((name ++ ending) ∷ [])))
      (slashed_more (between_slashes folder) (name ++ ending) ∙ ap (λ xs. xs ++ 47 ∷ (name ++ ending)) (joined folder))
      (All-append IsName (between_slashes folder) ((name ++ ending) ∷ []) (folder_names folder more shape) (All-cons IsName (name ++ ending) [] (new_name path name ending shape it end) (All-nil IsName)))

  root_read_back : is_read_back (47 ∷ more) ≡ true → IsEnd (47 ∷ more) ending → is_read_back (47 ∷ (name ++ ending)) ≡ true
  root_read_back given end =
      let shape : IsCanonicalPath (47 ∷ more) = shapes (location (47 ∷ more)) (record { path = 47 ∷ more; query = None }) (own (47 ∷ more) given) in
      names_read_back reads (47 ∷ (name ++ ending)) ((name ++ ending) ∷ []) (omega arith) (append-nil (47 ∷ (name ++ ending))) (All-cons IsName (name ++ ending) [] (new_name (47 ∷ more) name ending shape it end) (All-nil IsName))

  pub new_read_back : (outer : List ℕ) → is_read_back (outer ++ 47 ∷ more) ≡ true → IsEnd (outer ++ 47 ∷ more) ending → is_read_back (outer ++ 47 ∷ (name ++ ending)) ≡ true
  new_read_back [] given end = root_read_back given end
  new_read_back (b ∷ outer) given end =
      let path = b ∷ (outer ++ 47 ∷ more) in
      let shape : IsCanonicalPath path = shapes (location path) (record { path = path; query = None }) (own path given) in
      let slash : b ≡ 47 = eqb-true b 47 shape.rooted in
      subst (λ first. is_read_back (first ∷ (outer ++ 47 ∷ (name ++ ending))) ≡ true) (sym slash)
      (folder_read_back outer (subst (λ first. is_read_back (first ∷ (outer ++ 47 ∷ more)) ≡ true) slash given) (subst (λ first. IsEnd (first ∷ (outer ++ 47 ∷ more)) ending) slash end))
