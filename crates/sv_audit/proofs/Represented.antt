-- Each path has a representative that matches the same patterns.
use Rattle.std.proofs.Common.{◌≡◌, ℕ, ◌+◌, ◌≤◌, ◌<◌, ◌⊎◌, ⊎_elim, subst, append-nil, take, drop, zero, suc, Bool, true, false, cond, not, ◌&&◌, ◌||◌, ltb, List, [], ◌∷◌, ◌++◌, length, map, codes, refl, sym, ◌∙◌, ap, ap₂, arith, append_assoc, length-append, inl, inr, Option, None, Some}
use Rattle.std.specs.Prelude.{◌≢◌, filter, fold, max}
use Rattle.std.specs.List.{before_first, flat_map, list_all, list_any, repeat}
use Rattle.std.specs.Option.{option_map_or, option_to_list}
use Rattle.std.specs.Str.{bytes_eq}
use Rattle.std.proofs.lemmas.Bool.{and_parts, both_ways, cases_Bool, false_from_ne_true, and_from, eqb-true, ltb-false, not-true, or_cases, or_left, or_parts, or_right}
use Rattle.std.proofs.lemmas.Bool.Decides.{Decides-eqb}
use Rattle.std.proofs.lemmas.List.Folds.{list_any-append}
use Rattle.std.proofs.lemmas.Slice.Eq.{bytes_eq-Decides, starts_is}
use Rattle.sv_mapping.specs.BestMatch.{best_pattern}
use Rattle.sv_mapping.specs.Chosen.{is_chosen}
use Rattle.sv_mapping.specs.Pattern.{Form, Root, Default, Extension, Prefix, Exact, extension, form, form_matches, form_text, is_at_or_below, is_dot, is_slash, matches}
use Rattle.sv_mapping.specs.Protected.{is_protected, is_protected_folder}
use Rattle.sv_mapping.specs.Segments.{is_slashed}
use Rattle.sv_mapping.proofs.Longest.{chosen_where_served}
use Rattle.sv_mapping.proofs.Rooted.{rooted_cases}
use Rattle.sv_mapping.proofs.Tried.{In, In-cases, In-left, In-map, In-right}
use Rattle.sv_mapping.proofs.Uniqueness.{form_text-form}
use Rattle.sv_constraints.specs.Covering.{lists}
use Rattle.sv_audit.proofs.Alike.{same_best}
use Rattle.sv_mapping.proofs.TriedTexts.{form-empty, heads}
use Rattle.sv_audit.proofs.Names.{at_or_below, below_above, below_path, below_shorter, cut, extension_of, no_extension}
use Rattle.sv_audit.proofs.ReadBack.{IsEnd, IsPlainName, is_letter, new_read_back}
use Rattle.sv_uri.specs.LocationField.{LocationIsReadBack}
use Rattle.sv_uri.specs.Shape.{CanonicalHasShape}
use Rattle.sv_audit.specs.Examples.{is_read_back}
use Rattle.sv_audit.specs.Representatives.{EachPathIsRepresented, EachPathIsResembled, Resembles, directories, directory_of, ending_of, endings, file_path, free_path, free_paths, long_name, longest, named_by, named_paths, representatives, representatives_beside, slashed_paths}
use Rattle.sv_audit.specs.Shapes.{has_empty_folder}

-- ---- Lists of texts.
pub in_listed : (xs : List (List ℕ)) (x : List ℕ) → lists xs x ≡ true → In x xs
in_listed [] x there = absurd (both_ways _ refl there)
in_listed (y ∷ ys) x there = elim (or_cases _ _ there) [ inl here ↦ inl (sym ((bytes_eq-Decides y x).0 here)) | inr later ↦ inr (in_listed ys x later) ]

pub listed_in : (xs : List (List ℕ)) (x : List ℕ) → In x xs → lists xs x ≡ true
listed_in [] x there = absurd there
listed_in (y ∷ ys) x (inl here) = or_left _ _ ((bytes_eq-Decides y x).1 (sym here))
listed_in (y ∷ ys) x (inr later) = or_right _ _ (listed_in ys x later)

pub in_joined : {X Y : Type 0} (f : X → List Y) (x : X) (y : Y) (xs : List X) → In x xs → In y (f x) → In y (flat_map f xs)
in_joined f x y [] there here = absurd there
in_joined f x y (z ∷ zs) (inl same) here = In-left y (f z) (flat_map f zs) (rw same at here)
in_joined f x y (z ∷ zs) (inr later) here = In-right y (f z) (flat_map f zs) (in_joined f x y zs later here)

in_kept : (test : List ℕ → Bool) (x : List ℕ) (xs : List (List ℕ)) → In x xs → test x ≡ true → In x (filter test xs)
in_kept test x [] there passes = absurd there
in_kept test x (y ∷ ys) (inl same) passes = rw (ap test (sym same) ∙ passes) (inl same)
in_kept test x (y ∷ ys) (inr later) passes = elim (cases_Bool (test y)) [ inl e ↦ rw e (inr (in_kept test x ys later passes)) | inr e ↦ rw e (in_kept test x ys later passes) ]

-- ---- The name of a new path.
grows : (texts : List (List ℕ)) (most : ℕ) → most ≤ fold (λ most text. max most (length text)) most texts
grows [] most = omega arith
grows (text ∷ texts) most = omega (arith, grows texts (max most (length text)))

within_longest : (texts : List (List ℕ)) (most : ℕ) (text : List ℕ) → In text texts → length text ≤ fold (λ most text. max most (length text)) most texts
within_longest [] most text there = absurd there
within_longest (x ∷ xs) most text (inl same) = omega (arith, ap length same, grows xs (max most (length x)))
within_longest (x ∷ xs) most text (inr later) = within_longest xs (max most (length x)) text later

length_long : (n : ℕ) → length {A = ℕ} (repeat n (120 ∷ [])) ≡ n
length_long zero = refl
length_long (suc n) = ap suc (length_long n)

abbrev xs_of : ℕ → List ℕ
xs_of n = repeat n (codes "x")

pub repeat_more : (n : ℕ) → xs_of n ++ codes "x" ≡ xs_of (n + 1)
repeat_more zero = refl
repeat_more (suc n) = ap (λ xs. 120 ∷ xs) (repeat_more n) ∙ ap xs_of (next n)
  where
    next : (m : ℕ) → suc (m + 1) ≡ suc m + 1
    next m = omega arith

none_in_long : (test : ℕ → Bool) (n : ℕ) → test 120 ≡ false → list_any test (repeat n (120 ∷ [])) ≡ false
none_in_long test zero other = refl
none_in_long test (suc n) other = rw other (none_in_long test n other)

-- A new path is in its directory, with a name without a dot, and is none of the named paths.
record IsFree (named : List (List ℕ)) (directory ending path : List ℕ) : Type 0 where
  name : List ℕ
  is : path ≡ directory ++ 47 ∷ (name ++ ending)
  no_slash : list_any is_slash name ≡ false
  no_dot : list_any is_dot name ≡ false
  new : lists named path ≡ false
  plain : IsPlainName name
  unhidden : (rest : List ℕ) → is_protected (47 ∷ (name ++ rest)) ≡ false

filed : (directory name ending : List ℕ) → file_path directory name ending ≡ directory ++ 47 ∷ (name ++ ending)
filed directory name ending = append_assoc (directory ++ 47 ∷ []) name ending ∙ append_assoc directory (47 ∷ []) (name ++ ending)

pub longer : (named : List (List ℕ)) (directory ending : List ℕ) → lists named (file_path directory (long_name named) ending) ≡ false
longer named directory ending =
    false_from_ne_true _ (λ there.
    absurd (omega (arith, within_longest named 0 _ (in_listed named _ there), ap length (filed directory (long_name named) ending), length-append directory (47 ∷ (long_name named ++ ending)), length-append (long_name named) ending, length_long (longest named))))

-- ---- Hidden folders.
one_more : {X : Type 0} (x : X) (xs : List X) (n : ℕ) → take (1 + n) (x ∷ xs) ≡ x ∷ take n xs
one_more x xs n = let one : 1 + n ≡ suc n = omega arith in ap (λ k. take k (x ∷ xs)) one

before_other : (b : ℕ) (text : List ℕ) → is_slash b ≡ false → before_first is_slash (b ∷ text) ≡ b ∷ before_first is_slash text
before_other b text other = rw other (one_more b text _)

before_same : (text rest : List ℕ) → before_first is_slash (text ++ 47 ∷ rest) ≡ before_first is_slash text
before_same [] rest = refl
before_same (b ∷ text) rest =
    elim (cases_Bool (is_slash b)) [
      | inl is ↦ rw is refl
      | inr other ↦ before_other b (text ++ 47 ∷ rest) other ∙ (ap (λ front. b ∷ front) (before_same text rest) ∙ sym (before_other b text other))
    ]

first_of_two : (b : ℕ) (text : List ℕ) → is_slash b ≡ false → ((rest : List ℕ) → is_protected_folder (b ∷ rest) ≡ false) → is_protected (47 ∷ b ∷ text) ≡ false
first_of_two b text other never = ap is_protected_folder (before_other b text other) ∙ never (before_first is_slash text)

-- ---- A new path.
page_is : IsPlainName (codes "page")
page_is = record { first = 112; more = codes "age"; is = refl; letters = refl }

letters_long : (n : ℕ) → list_all is_letter (xs_of n) ≡ true
letters_long zero = refl
letters_long (suc n) = letters_long n

long_is : (n : ℕ) → 0 < n → IsPlainName (xs_of n)
long_is zero some = absurd (omega (arith, some))
long_is (suc n) some = record { first = 120; more = xs_of n; is = refl; letters = letters_long (suc n) }

long_unhidden : (n : ℕ) (rest : List ℕ) → 0 < n → is_protected (47 ∷ (xs_of n ++ rest)) ≡ false
long_unhidden zero rest some = absurd (omega (arith, some))
long_unhidden (suc n) rest some = first_of_two 120 (xs_of n ++ rest) refl (λ more. refl)

-- If a path of a short name is among them, the longest of the named paths is not empty.
some_longest : (named : List (List ℕ)) (directory ending : List ℕ) → lists named (file_path directory (codes "page") ending) ≡ true → 0 < longest named
some_longest named directory ending there =
    omega (arith, within_longest named 0 _ (in_listed named _ there), ap length (filed directory (codes "page") ending), length-append directory (47 ∷ (codes "page" ++ ending)))

free_is : (named : List (List ℕ)) (directory ending : List ℕ) → IsFree named directory ending (free_path named directory ending)
free_is named directory ending =
    elim (cases_Bool (lists named (file_path directory (codes "page") ending))) [
      | inl e ↦ rw e (record { name = long_name named; is = filed directory (long_name named) ending; no_slash = none_in_long is_slash (longest named) refl; no_dot = none_in_long is_dot (longest named) refl; new = longer named directory ending; plain = long_is (longest named) (some_longest named directory ending e); unhidden = λ rest. long_unhidden (longest named) rest (some_longest named directory ending e) })
      | inr e ↦ rw e (record { name = codes "page"; is = filed directory (codes "page") ending; no_slash = refl; no_dot = refl; new = e; plain = page_is; unhidden = λ rest. first_of_two 112 (codes "age" ++ rest) refl (λ more. refl) })
    ]

-- ---- The items of patterns.
module _ (patterns : List (List ℕ)) (of : Form → Option (List ℕ)) where
  found_in : (pattern item : List ℕ) → In pattern patterns → of (form pattern) ≡ Some item → In item (flat_map (λ pattern. option_to_list (of (form pattern))) patterns)
  found_in pattern item there is = in_joined (λ pattern. option_to_list (of (form pattern))) pattern item patterns there (rw is (inl refl))

-- ---- The same patterns match two paths.
unlike : (xs : List (List ℕ)) (path x : List ℕ) → lists xs path ≡ false → In x xs → bytes_eq path x ≡ false
unlike xs path x none there = false_from_ne_true _ (λ same. both_ways _ none (listed_in xs path (rw (sym ((bytes_eq-Decides path x).0 same)) at there)))

abbrev has : Option (List ℕ) → List ℕ → Bool
has found wanted = option_map_or (λ text. bytes_eq text wanted) found false

exact_is_some : (pattern : List ℕ) → form pattern ≡ Exact [] → ⊥
exact_is_some pattern is =
    let empty : pattern ≡ [] = sym (form_text-form pattern) ∙ ap form_text is in
    let root : form [] ≡ Exact [] = ap form (sym empty) ∙ is in
    let first : form [] ≡ Root = form-empty in
    cc

module _ (patterns : List (List ℕ)) (path other : List ℕ)
    (apart : (text : List ℕ) → In text (named_paths patterns) → ¬ (text ≡ []) → bytes_eq path text ≡ bytes_eq other text)
    (below : (directory : List ℕ) → In directory (directories patterns) → is_at_or_below directory path ≡ is_at_or_below directory other)
    (ends : (wanted : List ℕ) → In (46 ∷ wanted) (endings patterns) → has (extension path) wanted ≡ has (extension other) wanted) where
  by_form : (pattern : List ℕ) (f : Form) → In pattern patterns → form pattern ≡ f → form_matches f path ≡ form_matches f other
  by_form pattern Root there is = apart (47 ∷ []) (found_in patterns named_by pattern (47 ∷ []) there (ap named_by is)) (λ e. absurd (omega (arith, ap length e)))
  by_form pattern Default there is = refl
  by_form pattern (Extension wanted) there is = ends wanted (inr (found_in patterns ending_of pattern (46 ∷ wanted) there (ap ending_of is)))
  by_form pattern (Prefix prefix) there is = below prefix (inr (found_in patterns directory_of pattern prefix there (ap directory_of is)))
  by_form pattern (Exact text) there is =
      apart text (found_in patterns named_by pattern text there (ap named_by is)) (λ empty. exact_is_some pattern (is ∙ ap Exact empty))

  same_matches : (pattern : List ℕ) → lists patterns pattern ≡ true → matches pattern path ≡ matches pattern other
  same_matches pattern there = by_form pattern (form pattern) (in_listed patterns pattern there) refl

-- ---- Directories.
of_both : (f : Form) (directory : List ℕ) → In directory (option_to_list (directory_of f)) → In directory (option_to_list (named_by f))
of_both Root directory there = absurd there
of_both Default directory there = absurd there
of_both (Extension wanted) directory there = absurd there
of_both (Prefix prefix) directory there = there
of_both (Exact text) directory there = absurd there

directory_named : (patterns : List (List ℕ)) (directory : List ℕ) → In directory (flat_map (λ pattern. option_to_list (directory_of (form pattern))) patterns) → In directory (named_paths patterns)
directory_named [] directory there = absurd there
directory_named (pattern ∷ patterns) directory there =
    elim (In-cases directory (option_to_list (directory_of (form pattern))) _ there) [
      | inl here ↦ In-left directory (option_to_list (named_by (form pattern))) _ (of_both (form pattern) directory here)
      | inr later ↦ In-right directory (option_to_list (named_by (form pattern))) _ (directory_named patterns directory later)
    ]

-- A path that no pattern names is no directory.
no_directory : (patterns : List (List ℕ)) (front back directory : List ℕ) → lists (named_paths patterns) (front ++ 47 ∷ back) ≡ false → In directory (directories patterns) → bytes_eq (front ++ 47 ∷ back) directory ≡ false
no_directory patterns front back directory new (inl empty) =
    false_from_ne_true _ (λ same. absurd (omega (arith, ap length ((bytes_eq-Decides (front ++ 47 ∷ back) directory).0 same), ap length empty, length-append front (47 ∷ back))))
no_directory patterns front back directory new (inr there) = unlike (named_paths patterns) (front ++ 47 ∷ back) directory new (directory_named patterns directory there)

witness : (test : List ℕ → Bool) (xs : List (List ℕ)) → list_any test xs ≡ true → (x : List ℕ) × In x xs × (test x ≡ true)
witness test [] some = absurd (both_ways _ refl some)
witness test (x ∷ xs) some =
    elim (or_cases _ _ some) [ inl here ↦ (x, inl refl, here) | inr later ↦ let rest = witness test xs later in (rest.0, inr rest.1, rest.2) ]

any_from : (test : List ℕ → Bool) (x : List ℕ) (xs : List (List ℕ)) → In x xs → test x ≡ true → list_any test xs ≡ true
any_from test x [] there passes = absurd there
any_from test x (y ∷ ys) (inl same) passes = or_left _ _ (ap test (sym same) ∙ passes)
any_from test x (y ∷ ys) (inr later) passes = or_right _ _ (any_from test x ys later passes)

-- The longest of the directories that the text is at or below.
record IsLongest (patterns : List (List ℕ)) (text directory : List ℕ) : Type 0 where
  is_one : In directory (directories patterns)
  above : is_at_or_below directory text ≡ true
  longest_of : (other : List ℕ) → In other (directories patterns) → is_at_or_below other text ≡ true → length other ≤ length directory

longest_directory : (patterns : List (List ℕ)) (text : List ℕ) → is_at_or_below [] text ≡ true → (directory : List ℕ) × IsLongest patterns text directory
longest_directory patterns text rooted =
    let chosen = witness (is_chosen (directories patterns) text) (directories patterns) (chosen_where_served (directories patterns) text ∙ or_left _ _ rooted) in (
      chosen.0,
      record {
        is_one = chosen.1;
        above = (and_parts _ _ chosen.2).0;
        longest_of = λ other there under.
            le_from (length other) (length chosen.0)
            (false_from_ne_true _ (λ longer.
            both_ways _ (not-true _ (and_parts _ _ chosen.2).1) (any_from (λ one. is_at_or_below one text && ltb (length chosen.0) (length one)) other (directories patterns) there (and_from _ _ under longer))));
      },
    )
  where
    le_from : (m n : ℕ) → ltb n m ≡ false → m ≤ n
    le_from m n h = ltb-false n m h

same_truth : (a b : Bool) → (a ≡ true → b ≡ true) → (b ≡ true → a ≡ true) → a ≡ b
same_truth true b to from = sym (to refl)
same_truth false true to from = from refl
same_truth false false to from = refl

-- The longest directory of a text is at or below the same directories as the text.
same_directories : (patterns : List (List ℕ)) (text directory : List ℕ) → IsLongest patterns text directory → (other : List ℕ) → In other (directories patterns) → is_at_or_below other text ≡ is_at_or_below other directory
same_directories patterns text directory is other there =
    same_truth _ _ (λ under. below_shorter other directory text under is.above (is.longest_of other there under)) (λ under. below_above other directory text under is.above)

-- ---- Endings.
-- A path with this ending matches the same extension patterns.
record HasEnding (patterns : List (List ℕ)) (path ending : List ℕ) : Type 0 where
  is_one : In ending (endings patterns)
  plain : list_any is_slash ending ≡ false
  end : IsEnd path ending
  same : (directory name wanted : List ℕ) → list_any is_slash name ≡ false → list_any is_dot name ≡ false → In (46 ∷ wanted) (endings patterns)
      → has (extension path) wanted ≡ has (extension (directory ++ 47 ∷ (name ++ ending))) wanted

none_after : (test : ℕ → Bool) (xs ys : List ℕ) → list_any test (xs ++ ys) ≡ false → list_any test ys ≡ false
none_after test xs ys none = (or_parts (list_any test xs) (list_any test ys) (sym (list_any-append test xs ys) ∙ none)).1

none_joined : (test : ℕ → Bool) (xs ys : List ℕ) → list_any test xs ≡ false → list_any test ys ≡ false → list_any test (xs ++ ys) ≡ false
none_joined test xs ys first second = list_any-append test xs ys ∙ ap₂ (λ a b. a || b) first second

plain_path : (directory name : List ℕ) → list_any is_slash name ≡ false → list_any is_dot name ≡ false → extension (directory ++ 47 ∷ (name ++ [])) ≡ None
plain_path directory name no_slash no_dot = no_extension directory (name ++ []) (none_joined is_slash name [] no_slash refl) (none_joined is_dot name [] no_dot refl)

no_ending : (patterns : List (List ℕ)) (path : List ℕ) → ((wanted : List ℕ) → In (46 ∷ wanted) (endings patterns) → has (extension path) wanted ≡ false) → HasEnding patterns path []
no_ending patterns path none = record {
  is_one = inl refl;
  plain = refl;
  end = record { start = path; whole = sym (append-nil path); dotted = inl refl; slashless = refl };
  same = λ directory name wanted no_slash no_dot there. none wanted there ∙ sym (ap (λ found. has found wanted) (plain_path directory name no_slash no_dot));
}

ending_at : (patterns : List (List ℕ)) (path found start : List ℕ) → path ≡ start ++ 46 ∷ found → extension path ≡ Some found → list_any is_slash found ≡ false → list_any is_dot found ≡ false → (ending : List ℕ) × HasEnding patterns path ending
ending_at patterns path found start whole is no_slash no_dot =
    elim (cases_Bool (lists (endings patterns) (46 ∷ found))) [
      | inl listed ↦ (
        46 ∷ found,
        record {
          is_one = in_listed (endings patterns) (46 ∷ found) listed;
          plain = no_slash;
          end = record { start = start; whole = whole; dotted = inr (found, refl); slashless = no_slash };
          same = λ directory name wanted plain undotted there.
              ap (λ one. has one wanted) (is ∙ sym (extension_of directory name found (none_joined is_slash name (46 ∷ found) plain no_slash) no_dot));
        },
      )
      | inr none ↦ (
        [],
        no_ending patterns path (λ wanted there.
            ap (λ one. has one wanted) is
            ∙ false_from_ne_true _ (λ same. both_ways _ none (ap (λ text. lists (endings patterns) (46 ∷ text)) ((bytes_eq-Decides found wanted).0 same) ∙ listed_in (endings patterns) (46 ∷ wanted) there))),
      )
    ]

ending_for : (patterns : List (List ℕ)) (front back : List ℕ) → list_any is_slash back ≡ false → (ending : List ℕ) × HasEnding patterns (front ++ 47 ∷ back) ending
ending_for patterns front back plain =
    elim (cases_Bool (list_any is_dot back)) [
      | inr none ↦ ([], no_ending patterns (front ++ 47 ∷ back) (λ wanted there. ap (λ one. has one wanted) (no_extension front back plain none)))
      | inl some ↦
          let at = cut is_dot back some in
          let dot : at.1 ≡ 46 = eqb-true at.1 46 at.4 in
          let whole : back ≡ at.0 ++ 46 ∷ at.2 = at.3 ∙ ap (λ b. at.0 ++ b ∷ at.2) dot in
          let clean : list_any is_slash (at.0 ++ 46 ∷ at.2) ≡ false = ap (list_any is_slash) (sym whole) ∙ plain in
          ending_at patterns (front ++ 47 ∷ back) at.2 (front ++ 47 ∷ at.0) (ap (λ text. front ++ 47 ∷ text) whole ∙ sym (append_assoc front (47 ∷ at.0) (46 ∷ at.2))) (ap (λ text. extension (front ++ 47 ∷ text)) whole ∙ extension_of front at.0 at.2 clean at.5)
          (none_after is_slash at.0 (46 ∷ at.2) clean) at.5
    ]

-- ---- Representatives.
-- Each path comes first or last.
in_parts : (test : List ℕ → Bool) (x : List ℕ) (xs : List (List ℕ)) → In x xs → In x (filter (λ one. not (test one)) xs ++ filter test xs)
in_parts test x xs there =
    elim (cases_Bool (test x)) [
      | inl passes ↦ In-right x (filter (λ one. not (test one)) xs) (filter test xs) (in_kept test x xs there passes)
      | inr fails ↦ In-left x (filter (λ one. not (test one)) xs) (filter test xs) (in_kept (λ one. not (test one)) x xs there (ap not fails))
    ]

kept_in : (test : List ℕ → Bool) (x : List ℕ) (xs : List (List ℕ)) → In x (filter test xs) → In x xs × (test x ≡ true)
kept_in test x [] there = absurd there
kept_in test x (y ∷ ys) there = at (test y) refl there (λ later. kept_in test x ys later)
  where
    at : (passes : Bool) → test y ≡ passes → In x (cond passes (y ∷ filter test ys) (filter test ys)) → (In x (filter test ys) → In x ys × (test x ≡ true)) → In x (y ∷ ys) × (test x ≡ true)
    at true is (inl same) below = (inl same, ap test same ∙ is)
    at true is (inr later) below = (inr (below later).0, (below later).1)
    at false is later below = (inr (below later).0, (below later).1)

module _ (taken patterns : List (List ℕ)) where
  in_order : (path : List ℕ) → In path (slashed_paths taken patterns) → In path (representatives_beside taken patterns)
  in_order path there = in_parts has_empty_folder path (slashed_paths taken patterns) there

  slashed_one : (path : List ℕ) → In path (slashed_paths taken patterns) → is_slashed path ≡ true
  slashed_one path among = (kept_in is_slashed path (free_paths (named_paths patterns ++ taken) (endings patterns) (directories patterns) ++ named_paths patterns) among).1

  pub beside_slashed : (path : List ℕ) → In path (representatives_beside taken patterns) → is_slashed path ≡ true
  beside_slashed path there =
      elim (In-cases path (filter (λ one. not (has_empty_folder one)) (slashed_paths taken patterns)) (filter has_empty_folder (slashed_paths taken patterns)) there) [
        | inl first ↦ slashed_one path (kept_in (λ one. not (has_empty_folder one)) path (slashed_paths taken patterns) first).0
        | inr last ↦ slashed_one path (kept_in has_empty_folder path (slashed_paths taken patterns) last).0
      ]

pub representative_slashed : (patterns : List (List ℕ)) (path : List ℕ) → In path (representatives patterns) → is_slashed path ≡ true
representative_slashed patterns path there = beside_slashed [] patterns path there

first_slash : (directory back other rest : List ℕ) → directory ++ 47 ∷ back ≡ 47 ∷ rest → (more : List ℕ) × (directory ++ 47 ∷ other ≡ 47 ∷ more)
first_slash [] back other rest is = (other, refl)
first_slash (b ∷ bs) back other rest is = (bs ++ 47 ∷ other, ap (λ c. c ∷ (bs ++ 47 ∷ other)) (heads b 47 (bs ++ 47 ∷ back) rest is))

slashed : (path rest : List ℕ) → path ≡ 47 ∷ rest → is_slashed path ≡ true
slashed path rest is = (starts_is Decides-eqb path (47 ∷ []) _ refl).1 rest is

-- Both lists have a text exactly if one of them has it.
listed_neither : (xs ys : List (List ℕ)) (path : List ℕ) → lists (xs ++ ys) path ≡ false → (lists xs path ≡ false) × (lists ys path ≡ false)
listed_neither xs ys path none = or_parts (lists xs path) (lists ys path) (sym (list_any-append (λ text. bytes_eq text path) xs ys) ∙ none)

-- A new path next to a path: it is in a folder of the path, with a plain name and the end of the path.
record IsNext (path one : List ℕ) : Type 0 where
  directory : List ℕ
  name : List ℕ
  ending : List ℕ
  front : List ℕ
  back : List ℕ
  is : one ≡ directory ++ 47 ∷ (name ++ ending)
  plain : IsPlainName name
  unhidden : (rest : List ℕ) → is_protected (47 ∷ (name ++ rest)) ≡ false
  no_slash : list_any is_slash (name ++ ending) ≡ false
  whole : path ≡ front ++ 47 ∷ back
  above : is_at_or_below directory front ≡ true
  end : IsEnd path ending

abbrev SameBest : List (List ℕ) → List ℕ → List ℕ → Type 0
SameBest patterns one path = (part : List (List ℕ)) → ((text : List ℕ) → lists part text ≡ true → lists patterns text ≡ true) → best_pattern part one ≡ best_pattern part path

-- A representative of a path: the path itself, or a new path.
record IsFound (taken patterns : List (List ℕ)) (path one : List ℕ) : Type 0 where
  listed : lists (representatives_beside taken patterns) one ≡ true
  same : SameBest patterns one path
  free : lists taken one ≡ true → one ≡ path
  next : (one ≡ path) ⊎ IsNext path one

module _ (taken patterns : List (List ℕ)) where
  abbrev avoided : List (List ℕ)
  avoided = named_paths patterns ++ taken

  new_path : (directory ending : List ℕ) → In directory (directories patterns) → In ending (endings patterns) → is_slashed (free_path avoided directory ending) ≡ true
      → lists (representatives_beside taken patterns) (free_path avoided directory ending) ≡ true
  new_path directory ending there here rooted =
      listed_in (representatives_beside taken patterns) (free_path avoided directory ending)
      (in_order taken patterns (free_path avoided directory ending)
      (in_kept is_slashed (free_path avoided directory ending) (free_paths avoided (endings patterns) (directories patterns) ++ named_paths patterns)
      (In-left (free_path avoided directory ending) (free_paths avoided (endings patterns) (directories patterns)) (named_paths patterns)
      (in_joined (λ one. map (free_path avoided one) (endings patterns)) directory (free_path avoided directory ending) (directories patterns) there (In-map (free_path avoided directory) ending (endings patterns) here)))
      rooted))

  -- The representative has the best match of the path.
  stands : (path directory ending representative : List ℕ) → IsFree avoided directory ending representative
      → ((name : List ℕ) → list_any is_slash name ≡ false → list_any is_dot name ≡ false → lists (named_paths patterns) (directory ++ 47 ∷ (name ++ ending)) ≡ false
      → (pattern : List ℕ) → lists patterns pattern ≡ true → matches pattern path ≡ matches pattern (directory ++ 47 ∷ (name ++ ending)))
      → SameBest patterns representative path
  stands path directory ending representative free same part within =
      let new = listed_neither (named_paths patterns) taken representative free.new in
      sym (same_best part path representative
      (λ x here. same free.name free.no_slash free.no_dot (ap (lists (named_paths patterns)) (sym free.is) ∙ new.0) x (within x here) ∙ ap (matches x) (sym free.is)))

-- ---- The empty path.
empty_same : (patterns : List (List ℕ)) (name : List ℕ) → list_any is_slash name ≡ false → list_any is_dot name ≡ false → lists (named_paths patterns) ([] ++ 47 ∷ (name ++ [])) ≡ false
    → (pattern : List ℕ) → lists patterns pattern ≡ true → matches pattern [] ≡ matches pattern ([] ++ 47 ∷ (name ++ []))
empty_same patterns name no_slash no_dot new =
    same_matches patterns [] ([] ++ 47 ∷ (name ++ []))
    (λ text there some. false_from_ne_true _ (λ same. some (sym ((bytes_eq-Decides [] text).0 same))) ∙ sym (unlike (named_paths patterns) ([] ++ 47 ∷ (name ++ [])) text new there))
    (λ directory there. sym (below_path directory [] (name ++ []) (none_joined is_slash name [] no_slash refl) (no_directory patterns [] (name ++ []) directory new there)))
    (λ wanted there. sym (ap (λ found. has found wanted) (plain_path [] name no_slash no_dot)))

-- ---- A path that no pattern names.
path_same : (patterns : List (List ℕ)) (front back directory ending : List ℕ) → list_any is_slash back ≡ false → lists (named_paths patterns) (front ++ 47 ∷ back) ≡ false → IsLongest patterns front directory → HasEnding patterns (front ++ 47 ∷ back) ending
    → (name : List ℕ) → list_any is_slash name ≡ false → list_any is_dot name ≡ false → lists (named_paths patterns) (directory ++ 47 ∷ (name ++ ending)) ≡ false
    → (pattern : List ℕ) → lists patterns pattern ≡ true → matches pattern (front ++ 47 ∷ back) ≡ matches pattern (directory ++ 47 ∷ (name ++ ending))
path_same patterns front back directory ending plain new is its_ending name no_slash no_dot also =
    same_matches patterns (front ++ 47 ∷ back) (directory ++ 47 ∷ (name ++ ending))
    (λ text there some. unlike (named_paths patterns) (front ++ 47 ∷ back) text new there ∙ sym (unlike (named_paths patterns) (directory ++ 47 ∷ (name ++ ending)) text also there))
    (λ one there.
    below_path one front back plain (no_directory patterns front back one new there) ∙ same_directories patterns front directory is one there
    ∙ sym (below_path one directory (name ++ ending) (none_joined is_slash name ending no_slash its_ending.plain) (no_directory patterns directory (name ++ ending) one also there)))
    (λ wanted there. its_ending.same directory name wanted no_slash no_dot there)

-- A path that begins with a slash, cut at its last slash.
record IsCut (path front back : List ℕ) : Type 0 where
  whole : path ≡ front ++ 47 ∷ back
  plain : list_any is_slash back ≡ false

cut_path : (path rest : List ℕ) → path ≡ 47 ∷ rest → (front : List ℕ) × (back : List ℕ) × IsCut path front back
cut_path path rest is =
    let at = cut is_slash path (ap (list_any is_slash) is) in
    (at.0, at.2, record { whole = at.3 ∙ ap (λ b. at.0 ++ b ∷ at.2) (eqb-true at.1 47 at.4); plain = at.5 })

begins_at_root : (front back rest : List ℕ) → front ++ 47 ∷ back ≡ 47 ∷ rest → is_at_or_below [] front ≡ true
begins_at_root front back rest is =
    let more = first_slash front back [] rest is in
    at_or_below [] front ∙ slashed (front ++ 47 ∷ []) more.0 more.1

above_slash : (directory front more : List ℕ) → is_at_or_below directory front ≡ true → front ++ 47 ∷ [] ≡ 47 ∷ more → (other : List ℕ) → (rest : List ℕ) × (directory ++ 47 ∷ other ≡ 47 ∷ rest)
above_slash directory front more above is other =
    let begins = (starts_is Decides-eqb (front ++ 47 ∷ []) (directory ++ 47 ∷ []) _ refl).0 (sym (at_or_below directory front) ∙ above) in
    first_slash directory _ other more (sym (append_assoc directory (47 ∷ []) _) ∙ (sym begins ∙ is))

slash_free : (named : List (List ℕ)) (directory ending : List ℕ) → ((other : List ℕ) → (rest : List ℕ) × (directory ++ 47 ∷ other ≡ 47 ∷ rest)) → is_slashed (free_path named directory ending) ≡ true
slash_free named directory ending begins =
    let free = free_is named directory ending in
    let rest = begins (free.name ++ ending) in
    slashed (free_path named directory ending) rest.0 (free.is ∙ rest.1)

never_taken : (taken patterns : List (List ℕ)) (path one : List ℕ) → lists (named_paths patterns ++ taken) one ≡ false → lists taken one ≡ true → one ≡ path
never_taken taken patterns path one new there = absurd (both_ways _ (listed_neither (named_paths patterns) taken one new).1 there)

abbrev IsRepresented : List (List ℕ) → List ℕ → Type 0
IsRepresented patterns path = (one : List ℕ) × (lists (representatives patterns) one ≡ true) × SameBest patterns one path

empty_represented : (patterns : List (List ℕ)) → IsRepresented patterns []
empty_represented patterns =
    let one = free_path (avoided [] patterns) [] [] in (
      one,
      new_path [] patterns [] [] (inl refl) (inl refl) (slash_free (avoided [] patterns) [] [] (λ other. (other, refl))),
      stands [] patterns [] [] [] one (free_is (avoided [] patterns) [] []) (empty_same patterns),
    )

module _ (taken patterns : List (List ℕ)) where
  abbrev FoundFor : List ℕ → Type 0
  FoundFor path = (one : List ℕ) × IsFound taken patterns path one

  new_found : (front back rest : List ℕ) → front ++ 47 ∷ back ≡ 47 ∷ rest → list_any is_slash back ≡ false → lists (named_paths patterns) (front ++ 47 ∷ back) ≡ false → FoundFor (front ++ 47 ∷ back)
  new_found front back rest is plain new =
      let path = front ++ 47 ∷ back in
      let longest = longest_directory patterns front (begins_at_root front back rest is) in
      let ending = ending_for patterns front back plain in
      let more = first_slash front back [] rest is in
      let one = free_path (avoided taken patterns) longest.0 ending.0 in
      let free = free_is (avoided taken patterns) longest.0 ending.0 in (
        one,
        record {
          listed = new_path taken patterns longest.0 ending.0 longest.1.is_one ending.1.is_one (slash_free (avoided taken patterns) longest.0 ending.0 (above_slash longest.0 front more.0 longest.1.above more.1));
          same = stands taken patterns path longest.0 ending.0 one free (path_same patterns front back longest.0 ending.0 plain new longest.1 ending.1);
          free = never_taken taken patterns path one free.new;
          next = inr (record {
            directory = longest.0;
            name = free.name;
            ending = ending.0;
            front = front;
            back = back;
            is = free.is;
            plain = free.plain;
            unhidden = free.unhidden;
            no_slash = none_joined is_slash free.name ending.0 free.no_slash ending.1.plain;
            whole = refl;
            above = longest.1.above;
            end = ending.1.end;
          });
        },
      )

  slash_found : (path rest : List ℕ) → path ≡ 47 ∷ rest → FoundFor path
  slash_found path rest is =
      elim (cases_Bool (lists (named_paths patterns) path)) [
        | inl named ↦ (
          path,
          record {
            listed = listed_in (representatives_beside taken patterns) path
                (in_order taken patterns path
                (in_kept is_slashed path (free_paths (avoided taken patterns) (endings patterns) (directories patterns) ++ named_paths patterns)
                (In-right path (free_paths (avoided taken patterns) (endings patterns) (directories patterns)) (named_paths patterns) (in_listed (named_paths patterns) path named)) (slashed path rest is)));
            same = λ part within. refl;
            free = λ there. refl;
            next = inl refl;
          },
        )
        | inr new ↦
            let at = cut_path path rest is in
            subst FoundFor (sym at.2.whole) (new_found at.0 at.1 rest (sym at.2.whole ∙ is) at.2.plain (ap (lists (named_paths patterns)) (sym at.2.whole) ∙ new))
      ]

pub represented : EachPathIsRepresented
represented patterns path rooted =
    elim (rooted_cases path rooted) [
      | inl empty ↦ let it = empty_represented patterns in (it.0, it.1, λ part within. it.2 part within ∙ ap (best_pattern part) (sym empty))
      | inr slash ↦ let it = slash_found [] patterns path slash.0 slash.1 in (it.0, it.1.listed, it.1.same)
    ]

-- ---- A representative resembles its path.
-- A text that is at or below a directory begins with it and a slash, after a slash is appended to it.
under_directory : (directory front back : List ℕ) → is_at_or_below directory front ≡ true → (more : List ℕ) × (front ++ 47 ∷ back ≡ directory ++ 47 ∷ more)
under_directory directory front back above =
    let begins = (starts_is Decides-eqb (front ++ 47 ∷ []) (directory ++ 47 ∷ []) _ refl).0 (sym (at_or_below directory front) ∙ above) in
    let rest = drop (length (directory ++ 47 ∷ [])) (front ++ 47 ∷ []) in
    (rest ++ back, sym (append_assoc front (47 ∷ []) back) ∙ (ap (λ xs. xs ++ back) begins ∙ (append_assoc (directory ++ 47 ∷ []) rest back ∙ append_assoc directory (47 ∷ []) (rest ++ back))))

module _ (shapes : CanonicalHasShape) (reads : LocationIsReadBack) (path one : List ℕ) where
  itself_resembles : one ≡ path → Resembles one path
  itself_resembles same = record {
    below = λ folder under other. ap (is_at_or_below folder) (sym same) ∙ under;
    shown = λ shown. ap is_protected same ∙ shown;
    read_back = λ context reads. ap (λ text. is_read_back (context ++ text)) same ∙ reads;
  }

  module _ (slash : is_slashed path ≡ true) (it : IsNext path one) where
    within : (more : List ℕ) × (it.front ++ 47 ∷ it.back ≡ it.directory ++ 47 ∷ more)
    within = under_directory it.directory it.front it.back it.above

    path_is : path ≡ it.directory ++ 47 ∷ within.0
    path_is = it.whole ∙ within.1

    in_folder : (folder : List ℕ) → is_at_or_below folder one ≡ true → folder ≢ one → is_at_or_below folder path ≡ true
    in_folder folder under other =
        let apart : bytes_eq (it.directory ++ 47 ∷ (it.name ++ it.ending)) folder ≡ false = false_from_ne_true _ (λ same. other (sym (it.is ∙ (bytes_eq-Decides (it.directory ++ 47 ∷ (it.name ++ it.ending)) folder).0 same))) in
        let outer : is_at_or_below folder it.directory ≡ true = sym (below_path folder it.directory (it.name ++ it.ending) it.no_slash apart) ∙ (ap (is_at_or_below folder) (sym it.is) ∙ under) in
        let own : is_at_or_below it.directory path ≡ true = or_right _ _ ((starts_is Decides-eqb path (it.directory ++ 47 ∷ []) _ refl).1 within.0 (path_is ∙ sym (append_assoc it.directory (47 ∷ []) within.0))) in
        below_above folder it.directory path outer own

    hidden_at : (directory : List ℕ) → path ≡ directory ++ 47 ∷ within.0 → is_protected path ≡ false → is_protected (directory ++ 47 ∷ (it.name ++ it.ending)) ≡ false
    hidden_at [] is shown = it.unhidden it.ending
    hidden_at (b ∷ directory) is shown =
        let first : b ≡ 47 = heads b 47 (directory ++ 47 ∷ within.0) _ (sym is ∙ (starts_is Decides-eqb path (47 ∷ []) _ refl).0 slash) in
        subst (λ c. is_protected (c ∷ (directory ++ 47 ∷ (it.name ++ it.ending))) ≡ false) (sym first)
        (ap is_protected_folder (before_same directory (it.name ++ it.ending) ∙ sym (before_same directory within.0))
        ∙ (sym (ap is_protected (is ∙ ap (λ c. c ∷ (directory ++ 47 ∷ within.0)) first)) ∙ shown))

    reads_back : (context : List ℕ) → is_read_back (context ++ path) ≡ true → is_read_back (context ++ one) ≡ true
    reads_back context read =
        let outer = context ++ it.directory in
        let whole : context ++ path ≡ outer ++ 47 ∷ within.0 = ap (λ text. context ++ text) path_is ∙ sym (append_assoc context it.directory (47 ∷ within.0)) in
        let end : IsEnd (outer ++ 47 ∷ within.0) it.ending = record {
          start = context ++ it.end.start;
          whole = sym whole ∙ (ap (λ text. context ++ text) it.end.whole ∙ sym (append_assoc context it.end.start it.ending));
          dotted = it.end.dotted;
          slashless = it.end.slashless;
        } in
        ap is_read_back (ap (λ text. context ++ text) it.is ∙ sym (append_assoc context it.directory (47 ∷ (it.name ++ it.ending))))
        ∙ new_read_back shapes reads within.0 it.name it.ending it.plain outer (ap is_read_back (sym whole) ∙ read) end

    next_resembles : Resembles one path
    next_resembles = record {
      below = in_folder;
      shown = λ shown. ap is_protected it.is ∙ hidden_at it.directory path_is shown;
      read_back = reads_back;
    }

pub resembled : CanonicalHasShape → LocationIsReadBack → EachPathIsResembled
resembled shapes reads taken patterns path slash =
    let begins = (starts_is Decides-eqb path (47 ∷ []) _ refl).0 slash in
    let it = slash_found taken patterns path _ begins in
    (it.0, it.1.listed, it.1.same, ⊎_elim (itself_resembles shapes reads path it.0) (next_resembles shapes reads path it.0 slash) it.1.next, it.1.free)
