-- Each request that both servers give to a context has the rows of a shown path.
use Rattle.std.proofs.lemmas.Bool.{and_from, and_parts, both_ways, cases_Bool, cond-false, cond-true, false_from_ne_true, false≢true, not-true, not_from_false, or_cases, or_left, or_right}
use Rattle.std.proofs.lemmas.Bool.Decides.{Decides-eqb}
use Rattle.std.proofs.lemmas.List.{drop_at}
use Rattle.std.proofs.lemmas.List.Folds.{list_any-append}
use Rattle.std.proofs.lemmas.Slice.Eq.{bytes_eq-Decides, starts_is}
use Rattle.std.proofs.Common.{◌≡◌, ℕ, ◌≤◌, Bool, true, false, not, ◌&&◌, ◌||◌, List, [], ◌∷◌, ◌++◌, length, length-append, refl, ap, ap₂, sym, ◌∙◌, append-nil, append_assoc, arith, cond, inl, inr, ◌⊎◌, Option, None, Some, is_some, ltb-true}
use Rattle.std.specs.Prelude.{filter, find, nat_lt}
use Rattle.std.specs.List.{list_any}
use Rattle.std.specs.Option.{option_map_or}
use Rattle.std.specs.Str.{bytes_eq}
use Rattle.sv_mapping.specs.BestMatch.{best_pattern}
use Rattle.sv_mapping.specs.Chosen.{IsUnique, is_chosen}
use Rattle.sv_mapping.specs.Pattern.{is_at_or_below}
use Rattle.sv_mapping.specs.Protected.{is_protected}
use Rattle.sv_mapping.specs.Segments.{is_rooted, is_slashed}
use Rattle.sv_mapping.specs.Within.{path_within}
use Rattle.sv_mapping.proofs.Rooted.{slashed_rooted}
use Rattle.sv_mapping.proofs.Tried.{In, In-cases, In-left, In-map, In-right}
use Rattle.sv_constraints.specs.Covering.{lists}
use Rattle.sv_policy.proofs.Best.{found_in}
use Rattle.sv_audit.proofs.Members.{all_from, any_found, found_any, in_kept, kept_in}
use Rattle.sv_audit.proofs.Names.{at_or_below}
use Rattle.sv_audit.proofs.NarrowerLemmas.{contains}
use Rattle.sv_audit.proofs.Represented.{beside_slashed, in_listed, listed_in}
use Rattle.sv_audit.specs.Examples.{is_read_back}
use Rattle.sv_audit.specs.Representatives.{EachPathIsResembled, Resembles, representatives_beside}
use Rattle.sv_findings.specs.Reach.{chosen_path, serves}
use Rattle.sv_difference.specs.DifferenceLaws.{AreRooted}
use Rattle.sv_difference.specs.Differences.{row_path}
use Rattle.sv_difference.specs.ShownPaths.{is_shown, possible_paths, shown_paths, taken_by}

-- ---- The chosen context path.
some_at : (passes : Bool) (x : List ℕ) (rest : Option (List ℕ)) (some : Bool) → is_some rest ≡ some → is_some (cond passes (Some x) rest) ≡ (passes || some)
some_at true x rest some is = refl
some_at false x rest some is = is

pub some_found : (test : List ℕ → Bool) (xs : List (List ℕ)) → is_some (find test xs) ≡ list_any test xs
some_found test [] = refl
some_found test (x ∷ xs) = some_at (test x) x (find test xs) (list_any test xs) (some_found test xs)

pub chosen_of : IsUnique → (contexts : List (List ℕ)) (path context : List ℕ) → lists contexts context ≡ true → is_chosen contexts path context ≡ true → chosen_path contexts path ≡ Some context
chosen_of unique contexts path context there is = go (chosen_path contexts path) refl
  where
    go : (found : Option (List ℕ)) → chosen_path contexts path ≡ found → found ≡ Some context
    go None none = absurd (false≢true (sym (ap is_some none) ∙ (some_found (is_chosen contexts path) contexts ∙ any_found (is_chosen contexts path) context contexts (in_listed contexts context there) is)))
    go (Some x) found =
        let from = found_in (is_chosen contexts path) contexts x found in
        ap Some (unique contexts path x context (contains contexts x from.1) (contains contexts context there) from.0 is)

pub serves_if : (contexts : List (List ℕ)) (context path : List ℕ) → chosen_path contexts path ≡ Some context → serves contexts context path ≡ true
serves_if contexts context path is = ap (λ found. option_map_or (λ chosen. bytes_eq chosen context) found false) is ∙ (bytes_eq-Decides context context).1 refl

pub chosen_if : (contexts : List (List ℕ)) (context path : List ℕ) → serves contexts context path ≡ true → chosen_path contexts path ≡ Some context
chosen_if contexts context path is = go (chosen_path contexts path) is
  where
    go : (found : Option (List ℕ)) → option_map_or (λ chosen. bytes_eq chosen context) found false ≡ true → found ≡ Some context
    go None none = absurd (false≢true none)
    go (Some x) same = ap Some ((bytes_eq-Decides x context).0 same)

-- ---- Paths below a context path.
common : (front other text rest : List ℕ) → front ++ text ≡ other ++ rest → length front ≤ length other → (more : List ℕ) × (other ≡ front ++ more) × (text ≡ more ++ rest)
common [] other text rest same fits = (other, refl, same)
common (x ∷ front) [] text rest same fits = absurd (omega (arith, fits))
common (x ∷ front) (y ∷ other) text rest same fits =
    let below = common front other text rest (tails x y (front ++ text) (other ++ rest) same) (omega (arith, fits)) in
    (below.0, ap₂ (λ z zs. z ∷ zs) (sym (heads x y (front ++ text) (other ++ rest) same)) below.1, below.2)
  where
    heads : (b c : ℕ) (bs cs : List ℕ) → b ∷ bs ≡ c ∷ cs → b ≡ c
    heads b c bs cs e = cc

    tails : (b c : ℕ) (bs cs : List ℕ) → b ∷ bs ≡ c ∷ cs → bs ≡ cs
    tails b c bs cs e = cc

-- A text is at or below another exactly if it begins with it and a slash, after a slash is appended to it.
pub under : (outer text : List ℕ) → is_at_or_below outer text ≡ true → (rest : List ℕ) × (text ++ 47 ∷ [] ≡ outer ++ 47 ∷ rest)
under outer text is =
    (_, (starts_is Decides-eqb (text ++ 47 ∷ []) (outer ++ 47 ∷ []) _ refl).0 (sym (at_or_below outer text) ∙ is) ∙ append_assoc outer (47 ∷ []) _)

is_under : (outer text rest : List ℕ) → text ++ 47 ∷ [] ≡ outer ++ 47 ∷ rest → is_at_or_below outer text ≡ true
is_under outer text rest is = at_or_below outer text ∙ (starts_is Decides-eqb (text ++ 47 ∷ []) (outer ++ 47 ∷ []) _ refl).1 rest (is ∙ sym (append_assoc outer (47 ∷ []) rest))

module _ (context : List ℕ) where
  pub own : (text rest : List ℕ) → text ≡ 47 ∷ rest → is_at_or_below context (context ++ text) ≡ true
  own text rest is =
      is_under context (context ++ text) (rest ++ 47 ∷ []) (ap (λ xs. (context ++ xs) ++ 47 ∷ []) is ∙ append_assoc context (47 ∷ rest) (47 ∷ []))

  pub within_is : (text rest : List ℕ) → text ≡ 47 ∷ rest → path_within context (context ++ text) ≡ text
  within_is text rest is =
      cond-false _ _ _ (false_from_ne_true (bytes_eq (context ++ text) context) (λ (same : bytes_eq (context ++ text) context ≡ true). absurd (omega (arith, ap length ((bytes_eq-Decides (context ++ text) context).0 same), length-append context text, ap length is))))
      ∙ drop_at context text (length context) refl

  -- A longer path at or above a path below the context path.
  inner : (other text : List ℕ) → is_at_or_below other (context ++ text) ≡ true → nat_lt (length context) (length other) ≡ true → (more : List ℕ) × (other ≡ context ++ more) × (is_at_or_below more text ≡ true)
  inner other text is longer =
      let more = under other (context ++ text) is in
      let cut = common context other (text ++ 47 ∷ []) (47 ∷ more.0) (sym (append_assoc context text (47 ∷ [])) ∙ more.1) (omega (arith, ltb-true (length context) (length other) longer)) in
      (cut.0, cut.1, is_under cut.0 text more.0 cut.2)

  outer : (more text : List ℕ) → is_at_or_below more text ≡ true → is_at_or_below (context ++ more) (context ++ text) ≡ true
  outer more text is =
      let rest = under more text is in
      is_under (context ++ more) (context ++ text) rest.0 (append_assoc context text (47 ∷ []) ∙ (ap (λ xs. context ++ xs) rest.1 ∙ sym (append_assoc context more (47 ∷ rest.0))))

  module _ (contexts taken : List (List ℕ)) (path text rest : List ℕ) (slash : text ≡ 47 ∷ rest) (chosen : is_chosen contexts (context ++ path) context ≡ true)
      (has : (other : List ℕ) → In other contexts → is_at_or_below context other ≡ true → lists taken (path_within context other) ≡ true) (resembles : Resembles text path) (free : lists taken text ≡ true → text ≡ path) where
    abbrev takes : List ℕ → List ℕ → Bool
    takes its_path other = is_at_or_below other its_path && nat_lt (length context) (length other)

    none_takes : list_any (takes (context ++ path)) contexts ≡ false
    none_takes = not-true _ (and_parts (is_at_or_below context (context ++ path)) (not (list_any (takes (context ++ path)) contexts)) chosen).1

    -- No longer context path is at or above the path.
    no_longer : (other : List ℕ) → In other contexts → is_at_or_below other (context ++ path) ≡ true → nat_lt (length context) (length other) ≡ true → ⊥
    no_longer other there is longer = both_ways _ none_takes (any_found (takes (context ++ path)) other contexts there (and_from _ _ is longer))

    never : (other : List ℕ) → In other contexts → is_at_or_below other (context ++ text) ≡ true → nat_lt (length context) (length other) ≡ true → ⊥
    never other there is longer =
        let at = inner other text is longer in
        elim (cases_Bool (bytes_eq at.0 text)) [
          | inl same ↦
              let whole : other ≡ context ++ text = at.1 ∙ ap (λ xs. context ++ xs) ((bytes_eq-Decides at.0 text).0 same) in
              let below : is_at_or_below context other ≡ true = ap (is_at_or_below context) whole ∙ own text rest slash in
              let listed : lists taken text ≡ true = sym (ap (lists taken) (ap (path_within context) whole ∙ within_is text rest slash)) ∙ has other there below in
              let itself : context ++ path ≡ other = ap (λ xs. context ++ xs) (sym (free listed)) ∙ sym whole in
              no_longer other there (or_left _ _ ((bytes_eq-Decides (context ++ path) other).1 itself)) longer
          | inr apart ↦
              no_longer other there
              (ap (λ one. is_at_or_below one (context ++ path)) at.1 ∙ outer at.0 path (resembles.below at.0 at.2 (λ same. both_ways _ apart ((bytes_eq-Decides at.0 text).1 same)))) longer
        ]

    pub still_chosen : is_chosen contexts (context ++ text) context ≡ true
    still_chosen =
        and_from (is_at_or_below context (context ++ text)) _ (own text rest slash)
        (not_from_false _ (false_from_ne_true _ (λ some.
        let other = found_any (takes (context ++ text)) contexts some in
        let parts = and_parts (is_at_or_below other.0 (context ++ text)) (nat_lt (length context) (length other.0)) other.2 in
        never other.0 other.1 parts.0 parts.1)))

-- ---- Shown paths.
taken_has : (contexts : List (List ℕ)) (context other : List ℕ) → In other contexts → is_at_or_below context other ≡ true → lists (taken_by contexts context) (path_within context other) ≡ true
taken_has contexts context other there below =
    listed_in (taken_by contexts context) (path_within context other) (In-map (path_within context) other (filter (is_at_or_below context) contexts) (in_kept (is_at_or_below context) other contexts there below))

pub listed_left : (xs ys : List (List ℕ)) (x : List ℕ) → lists xs x ≡ true → lists (xs ++ ys) x ≡ true
listed_left xs ys x there = list_any-append (λ text. bytes_eq text x) xs ys ∙ or_left _ _ there

pub listed_right : (xs ys : List (List ℕ)) (x : List ℕ) → lists ys x ≡ true → lists (xs ++ ys) x ≡ true
listed_right xs ys x there = list_any-append (λ text. bytes_eq text x) xs ys ∙ or_right _ _ there

begins : (text : List ℕ) → is_slashed text ≡ true → (rest : List ℕ) × (text ≡ 47 ∷ rest)
begins text is = (_, (starts_is Decides-eqb text (47 ∷ []) _ refl).0 is)

module _ (befores afters : List (List ℕ)) (context : List ℕ) (patterns : List (List ℕ)) where
  abbrev shown : List (List ℕ)
  shown = shown_paths befores afters context patterns

  abbrev taken : List (List ℕ)
  taken = taken_by befores context ++ taken_by afters context

  -- What follows the context path is nothing, or begins with a slash.
  possible_rooted : (path : List ℕ) → In path (possible_paths befores afters context patterns) → (path ≡ []) ⊎ ((rest : List ℕ) × (path ≡ 47 ∷ rest))
  possible_rooted path there =
      elim (In-cases path (representatives_beside taken patterns) ([] ∷ []) there) [
        | inl front ↦ inr (begins path (beside_slashed taken patterns path front))
        | inr (inl same) ↦ inl same
        | inr (inr none) ↦ absurd none
      ]

  pub shown_rooted : AreRooted shown
  shown_rooted = all_from (λ path. is_rooted path ≡ true) shown (λ path there. rooted_one path (possible_rooted path (kept_in (is_shown befores afters context) path (possible_paths befores afters context patterns) there)))
    where
      rooted_one : (path : List ℕ) → (path ≡ []) ⊎ ((rest : List ℕ) × (path ≡ 47 ∷ rest)) → is_rooted path ≡ true
      rooted_one path (inl none) = ap is_rooted none
      rooted_one path (inr some) = slashed_rooted path some.0 some.1

  -- What the test says of a shown path.
  pub record IsOnBoth (path : List ℕ) : Type 0 where
    pub read_back : is_read_back (context ++ path) ≡ true
    pub before : chosen_path befores (context ++ path) ≡ Some context
    pub after : chosen_path afters (context ++ path) ≡ Some context
    pub unhidden : is_protected (path_within context (context ++ path)) ≡ false
    pub within : path_within context (context ++ path) ≡ row_path path

  within_row : (path : List ℕ) → (path ≡ []) ⊎ ((rest : List ℕ) × (path ≡ 47 ∷ rest)) → path_within context (context ++ path) ≡ row_path path
  within_row path (inl none) = cond-true _ _ _ ((bytes_eq-Decides (context ++ path) context).1 (ap (λ xs. context ++ xs) none ∙ append-nil context)) ∙ ap row_path (sym none)
  within_row path (inr some) = within_is context path some.0 some.1 ∙ (some.1 ∙ ap row_path (sym some.1))

  open_row : (path : List ℕ) → is_protected path ≡ false → is_protected (row_path path) ≡ false
  open_row [] is = refl
  open_row (b ∷ path) is = is

  pub on_both : (path : List ℕ) → In path shown → IsOnBoth path
  on_both path there =
      let passes : is_shown befores afters context path ≡ true = passing path (possible_paths befores afters context patterns) there in
      let outer_parts = and_parts (is_read_back (context ++ path) && serves befores context (context ++ path) && serves afters context (context ++ path)) (not (is_protected path)) passes in
      let parts = and_parts (is_read_back (context ++ path) && serves befores context (context ++ path)) (serves afters context (context ++ path)) outer_parts.0 in
      let first = and_parts (is_read_back (context ++ path)) (serves befores context (context ++ path)) parts.0 in
      let row = within_row path (possible_rooted path (kept_in (is_shown befores afters context) path (possible_paths befores afters context patterns) there)) in
      record {
        read_back = first.0;
        before = chosen_if befores context (context ++ path) first.1;
        after = chosen_if afters context (context ++ path) parts.1;
        unhidden = ap is_protected row ∙ open_row path (not-true _ outer_parts.1);
        within = row;
      }
    where
      passing : (x : List ℕ) (xs : List (List ℕ)) → In x (filter (is_shown befores afters context) xs) → is_shown befores afters context x ≡ true
      passing x [] none = absurd none
      passing x (y ∷ ys) is_in = go (is_shown befores afters context y) refl is_in (λ later. passing x ys later)
        where
          go : (b : Bool) → is_shown befores afters context y ≡ b → In x (cond b (y ∷ filter (is_shown befores afters context) ys) (filter (is_shown befores afters context) ys))
              → (In x (filter (is_shown befores afters context) ys) → is_shown befores afters context x ≡ true) → is_shown befores afters context x ≡ true
          go true is (inl same) below = ap (is_shown befores afters context) same ∙ is
          go true is (inr later) below = below later
          go false is later below = below later

  is_shown_if : (path : List ℕ) → is_read_back (context ++ path) ≡ true → chosen_path befores (context ++ path) ≡ Some context → chosen_path afters (context ++ path) ≡ Some context → is_protected path ≡ false → is_shown befores afters context path ≡ true
  is_shown_if path reads before after unhidden =
      and_from (is_read_back (context ++ path) && serves befores context (context ++ path) && serves afters context (context ++ path)) (not (is_protected path))
      (and_from (is_read_back (context ++ path) && serves befores context (context ++ path)) (serves afters context (context ++ path))
      (and_from (is_read_back (context ++ path)) (serves befores context (context ++ path)) reads (serves_if befores context (context ++ path) before)) (serves_if afters context (context ++ path) after))
      (not_from_false _ unhidden)

  listed_shown : (path : List ℕ) → In path (possible_paths befores afters context patterns) → is_shown befores afters context path ≡ true → lists shown path ≡ true
  listed_shown path there passes = listed_in shown path (in_kept (is_shown befores afters context) path (possible_paths befores afters context patterns) there passes)

  -- A shown path with the best matches of this path, among any part of the patterns.
  abbrev pub HasShown : List ℕ → Type 0
  HasShown path = (one : List ℕ) × (lists shown one ≡ true)
      × ((part : List (List ℕ)) → ((text : List ℕ) → lists part text ≡ true → lists patterns text ≡ true) → best_pattern part (row_path one) ≡ best_pattern part path)

  module _ (resembled : EachPathIsResembled) (unique : IsUnique) (path : List ℕ) (reads : is_read_back path ≡ true) (before : chosen_path befores path ≡ Some context) (after : chosen_path afters path ≡ Some context)
      (unhidden : is_protected (path_within context path) ≡ false) where
    itself_shown : path ≡ context → HasShown (path_within context path)
    itself_shown same =
        let whole : context ++ [] ≡ path = append-nil context ∙ sym same in (
          [],
          listed_shown [] (In-right [] (representatives_beside taken patterns) ([] ∷ []) (inl refl)) (is_shown_if [] (ap is_read_back whole ∙ reads) (ap (chosen_path befores) whole ∙ before) (ap (chosen_path afters) whole ∙ after) refl),
          λ part within. ap (best_pattern part) (sym (cond-true _ _ _ ((bytes_eq-Decides path context).1 same))),
        )

    below_shown : (rest : List ℕ) → path ≡ context ++ 47 ∷ rest → HasShown (path_within context path)
    below_shown rest whole =
        let text = 47 ∷ rest in
        let inside : path_within context path ≡ text = ap (path_within context) whole ∙ within_is context text rest refl in
        let it = resembled taken patterns text (slashed_one text rest refl) in
        let one = it.0 in
        let starts = begins one (beside_slashed taken patterns one (in_listed (representatives_beside taken patterns) one it.1)) in
        let first = found_in (is_chosen befores path) befores context before in
        let second = found_in (is_chosen afters path) afters context after in
        let chosen_before = still_chosen context befores taken text one starts.0 starts.1 (ap (λ p. is_chosen befores p context) (sym whole) ∙ first.0)
        (λ other there below. listed_left (taken_by befores context) (taken_by afters context) (path_within context other) (taken_has befores context other there below)) it.3 it.4 in
        let chosen_after = still_chosen context afters taken text one starts.0 starts.1 (ap (λ p. is_chosen afters p context) (sym whole) ∙ second.0)
        (λ other there below. listed_right (taken_by befores context) (taken_by afters context) (path_within context other) (taken_has afters context other there below)) it.3 it.4 in (
          one,
          listed_shown one (In-left one (representatives_beside taken patterns) ([] ∷ []) (in_listed (representatives_beside taken patterns) one it.1))
              (is_shown_if one (it.3.read_back context (ap is_read_back (sym whole) ∙ reads)) (chosen_of unique befores (context ++ one) context first.1 chosen_before) (chosen_of unique afters (context ++ one) context second.1 chosen_after)
              (it.3.shown (ap is_protected (sym inside) ∙ unhidden))),
          λ part within. ap (best_pattern part) (ap row_path starts.1 ∙ sym starts.1) ∙ (it.2 part within ∙ ap (best_pattern part) (sym inside)),
        )
      where
        slashed_one : (one more : List ℕ) → one ≡ 47 ∷ more → is_slashed one ≡ true
        slashed_one one more is = (starts_is Decides-eqb one (47 ∷ []) _ refl).1 more is

    pub has_shown : HasShown (path_within context path)
    has_shown =
        let chosen = (found_in (is_chosen befores path) befores context before).0 in
        elim (or_cases (bytes_eq path context) _ (and_parts (is_at_or_below context path) _ chosen).0) [
          | inl same ↦ itself_shown ((bytes_eq-Decides path context).0 same)
          | inr below ↦ let rest = (starts_is Decides-eqb path (context ++ 47 ∷ []) _ refl).0 below in below_shown _ (rest ∙ append_assoc context (47 ∷ []) _)
        ]
