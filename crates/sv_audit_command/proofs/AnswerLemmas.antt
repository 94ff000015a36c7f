-- What answers the paths of rows.
use Rattle.std.proofs.Common.{◌≡◌, ◌∙◌, ◌≤◌, ℕ, zero, suc, ◌+◌, ◌<◌, Bool, true, false, not, cond, ◌&&◌, ◌||◌, List, [], ◌∷◌, ◌++◌, length, length-append, take, get_or, map, refl, sym, ap, subst, arith, inl, inr, Option, Some, None, nat_lt}
use Rattle.std.specs.Prelude.{filter, is_some, option_and_then, position, slice_get}
use Rattle.std.specs.List.{list_any}
use Rattle.std.specs.Option.{option_map}
use Rattle.std.specs.Str.{bytes_eq}
use Rattle.std.proofs.lemmas.Bool.{and_from, both_ways, false≢true, not-true, or_cases, or_left, or_right}
use Rattle.std.proofs.lemmas.List.{map-append}
use Rattle.std.proofs.lemmas.List.Elements.{filter_more}
use Rattle.std.proofs.lemmas.List.Folds.{list_any-append}
use Rattle.std.proofs.lemmas.Slice.Eq.{bytes_eq-Decides}
use Rattle.sv_mapping.proofs.Tried.{In, In-map, In-map_from}
use Rattle.sv_mapping.specs.BestMatch.{BestIsAMatch, BestStandsFirst, best, best_pattern}
use Rattle.sv_mapping.specs.Segments.{is_rooted}
use Rattle.sv_uri.specs.Shape.{CanonicalHasShape}
use Rattle.sv_constraints.specs.Covering.{all_patterns, lists}
use Rattle.sv_constraints.specs.declared.constraint.Constraint.{Constraint}
use Rattle.sv_descriptor.specs.declared.servlet.ServletMapping.{ServletMapping}
use Rattle.sv_policy.proofs.Rising.{rising_lists}
use Rattle.sv_policy.proofs.Steps.{passing_lists}
use Rattle.sv_policy.specs.Uncovered.{rising}
use Rattle.sv_audit.proofs.Members.{in_kept}
use Rattle.sv_audit.proofs.SamePatterns.{same_decides, same_itself}
use Rattle.sv_audit.proofs.Represented.{in_listed, representative_slashed}
use Rattle.sv_audit.proofs.Shapes.{IsShaped, nothing_matches, served_shaped}
use Rattle.sv_audit.specs.Reading.{is_same}
use Rattle.sv_audit.specs.Representatives.{EachPathIsRepresented, representatives}
use Rattle.sv_report.specs.declared.report.Answers.{Answers}
use Rattle.sv_audited_contexts.specs.ServletPatterns.{mapped_patterns}
use Rattle.sv_audit_command.specs.ContextPatterns.{context_patterns, name_at, servlet_at}
use Rattle.sv_audit_command.specs.RowAnswers.{AnswersAreComplete, AnswersAreListed, AnswersAreRight, answered_among, answered_path, answers_among, answers_in, answers_of, have_answer, includes, is_answered, is_at, is_pathless, servlet_in}
use Rattle.sv_audit_command.specs.declared.context_patterns.ContextPatterns.{ContextPatterns}
use Rattle.sv_audit_command.specs.declared.context_patterns.TheConstants.{MAX_ANSWERED_PATTERNS}
use Rattle.sv_audit_command.specs.declared.row_answers.AnsweredPath.{AnsweredPath}

-- ---- Lists.
any_in : {X : Type 0} (test : X → Bool) (x : X) (xs : List X) → In x xs → test x ≡ true → list_any test xs ≡ true
any_in test x [] there passes = absurd there
any_in test x (y ∷ ys) (inl same) passes = or_left _ _ (ap test (sym same) ∙ passes)
any_in test x (y ∷ ys) (inr later) passes = or_right _ _ (any_in test x ys later passes)

in_any : {X : Type 0} (test : X → Bool) (xs : List X) → list_any test xs ≡ true → (x : X) × In x xs × (test x ≡ true)
in_any test [] some = absurd (false≢true some)
in_any test (y ∷ ys) some = elim (or_cases _ _ some) [ inl here ↦ (y, inl refl, here) | inr later ↦ let it = in_any test ys later in (it.0, inr it.1, it.2) ]

kept_in : {X : Type 0} (test : X → Bool) (x : X) (xs : List X) → In x (filter test xs) → In x xs × (test x ≡ true)
kept_in test x [] there = absurd there
kept_in test x (y ∷ ys) there = go (test y) refl there (λ later. kept_in test x ys later)
  where
    go : (b : Bool) → test y ≡ b → In x (cond b (y ∷ filter test ys) (filter test ys)) → (In x (filter test ys) → In x ys × (test x ≡ true)) → In x (y ∷ ys) × (test x ≡ true)
    go true is (inl same) below = (inl same, ap test same ∙ is)
    go true is (inr later) below = (inr (below later).0, (below later).1)
    go false is later below = (inr (below later).0, (below later).1)

lists_at : (texts : List (List ℕ)) (place : ℕ) (text : List ℕ) → slice_get texts place ≡ Some text → lists texts text ≡ true
lists_at [] zero text is = absurd cc
lists_at [] (suc place) text is = absurd cc
lists_at (first ∷ texts) zero text is = or_left _ _ ((bytes_eq-Decides first text).1 cc)
lists_at (first ∷ texts) (suc place) text is = or_right _ _ (lists_at texts place text is)

both_true : (a b : Bool) → (a && b) ≡ true → (a ≡ true) × (b ≡ true)
both_true true true both = (refl, refl)
both_true true false both = absurd (false≢true both)
both_true false b both = absurd (false≢true both)

pub any_of_map : {X Y : Type 0} (test : Y → Bool) (f : X → Y) (xs : List X) → list_any test (map f xs) ≡ list_any (λ x. test (f x)) xs
any_of_map test f [] = refl
any_of_map test f (x ∷ xs) = ap (λ some. test (f x) || some) (any_of_map test f xs)

-- The same answers of the same names and paths.
pub same_answers : (Is : Answers → Type 0) (names known : List (List ℕ)) (paths found : List AnsweredPath) → names ≡ known → paths ≡ found
    → Is (answers_of names paths) → Is (answers_of known found)
same_answers Is names known paths found names_are paths_are is =
    let of_known : List (List ℕ) → Type 0 = λ listed. Is (answers_of listed found) in
    let of_found : List AnsweredPath → Type 0 = λ listed. Is (answers_of names listed) in
    subst of_known names_are (subst of_found paths_are is)

some_same : {X : Type 0} (x y : X) → Some x ≡ Some y → x ≡ y
some_same x y same = cc

-- ---- A path of a context.
module _ (patterns : ContextPatterns) where
  -- A servlet that answers a path has a name.
  named_at : (place : Option ℕ) (name : List ℕ) → option_and_then (name_at patterns.names) place ≡ Some name → lists patterns.names name ≡ true
  named_at None name is = absurd cc
  named_at (Some place) name is = lists_at patterns.names place name is

  included_by : (paths : List AnsweredPath) (servlet : Option (List ℕ)) → ((name : List ℕ) → servlet ≡ Some name → lists patterns.names name ≡ true)
      → have_answer paths servlet ≡ true → includes (answers_of (rising patterns.names) paths) servlet ≡ true
  included_by paths None named has = has
  included_by paths (Some name) named has =
      passing_lists (λ one. have_answer paths (Some one)) (rising patterns.names) name
      ∙ and_from _ _ (rising_lists patterns.names name ∙ named name refl) has

  has_included : (names : List (List ℕ)) (paths : List AnsweredPath) (servlet : Option (List ℕ)) → includes (answers_of names paths) servlet ≡ true → have_answer paths servlet ≡ true
  has_included names paths None is = is
  has_included names paths (Some name) is = (both_true _ _ (sym (passing_lists (λ one. have_answer paths (Some one)) names name) ∙ is)).1

  -- The row and the servlet of a path are those of one of the tried paths.
  tried : (paths : List (List ℕ)) (one : List ℕ) (pattern servlet : Option (List ℕ)) → In one paths → best_pattern patterns.constraints one ≡ pattern → servlet_at patterns one ≡ servlet
      → have_answer (filter (is_at pattern) (map (answered_path patterns) paths)) servlet ≡ true
  tried paths one pattern servlet there its_row answers =
      any_in (λ path. is_same path.servlet servlet) (answered_path patterns one) (filter (is_at pattern) (map (answered_path patterns) paths))
      (in_kept (is_at pattern) (answered_path patterns one) (map (answered_path patterns) paths) (In-map (answered_path patterns) one paths there)
      (ap (λ best. is_same best pattern) its_row ∙ same_itself pattern))
      (ap (λ name. is_same name servlet) answers ∙ same_itself servlet)

  tried_from : (paths : List (List ℕ)) (pattern servlet : Option (List ℕ)) → have_answer (filter (is_at pattern) (map (answered_path patterns) paths)) servlet ≡ true
      → (one : List ℕ) × In one paths × (best_pattern patterns.constraints one ≡ pattern) × (servlet_at patterns one ≡ servlet)
  tried_from paths pattern servlet has =
      let found = in_any (λ path. is_same path.servlet servlet) (filter (is_at pattern) (map (answered_path patterns) paths)) has in
      let kept = kept_in (is_at pattern) found.0 (map (answered_path patterns) paths) found.1 in
      let from = In-map_from (answered_path patterns) found.0 paths kept.0 in (
        from.0,
        from.1,
        same_decides _ _ (ap (is_at pattern) (sym from.2) ∙ kept.1),
        same_decides _ _ (ap (λ path. is_same path.servlet servlet) (sym from.2) ∙ found.2),
      )

-- ---- The paths that are answered, one at a time.
shown_map : {X Y : Type 0} (f : X → Y) (x : X) (b : Bool) → map f (cond b (x ∷ []) []) ≡ cond b (f x ∷ []) []
shown_map f x true = refl
shown_map f x false = refl

pub next_answered : (patterns : ContextPatterns) (paths : List (List ℕ)) (i : ℕ) (path text : List ℕ) (before after : List AnsweredPath) → i < length paths → path ≡ get_or paths i path → text ≡ path
    → before ≡ map (answered_path patterns) (filter (is_answered patterns) (take i paths))
    → after ≡ before ++ cond (is_answered patterns text) (answered_path patterns text ∷ []) []
    → after ≡ map (answered_path patterns) (filter (is_answered patterns) (take (i + 1) paths))
next_answered patterns paths i path text before after within at same was pushed =
    let f = answered_path patterns in
    let test = is_answered patterns in
    pushed ∙ ap (λ t. before ++ cond (test t) (f t ∷ []) []) (same ∙ at) ∙ ap (λ done. done ++ cond (test (get_or paths i path)) (f (get_or paths i path) ∷ []) []) was
    ∙ ap (λ more. map f (filter test (take i paths)) ++ more) (sym (shown_map f (get_or paths i path) (test (get_or paths i path))))
    ∙ sym (map-append f (filter test (take i paths)) (cond (test (get_or paths i path)) (get_or paths i path ∷ []) []))
    ∙ ap (map f) (sym (filter_more test paths i path within))

-- ---- Constraints and servlets.
module _ (constraints : List Constraint) (mappings : List ServletMapping) where
  abbrev patterns : ContextPatterns
  patterns = context_patterns constraints mappings

  abbrev all : List (List ℕ)
  all = all_patterns constraints ++ mapped_patterns mappings

  -- The tried paths are the representatives, unless there are too many patterns.
  abbrev tried_paths : List (List ℕ)
  tried_paths = filter (is_answered patterns) (representatives all)

  listed_from : (pattern : Option (List ℕ)) (answers : Answers) → answers_in constraints mappings pattern ≡ Some answers
      → answers ≡ answers_of (rising patterns.names) (filter (is_at pattern) (map (answered_path patterns) tried_paths))
  listed_from pattern answers is = go (is_pathless pattern) (nat_lt MAX_ANSWERED_PATTERNS (length all)) is
    where
      go : (pathless many : Bool) → cond pathless None (option_map (answers_among pattern) (option_map (answered_among patterns) (cond many None (Some (representatives all))))) ≡ Some answers
          → answers ≡ answers_of (rising patterns.names) (filter (is_at pattern) (map (answered_path patterns) tried_paths))
      go true many none = absurd cc
      go false true none = absurd cc
      go false false some = sym (some_same _ _ some)

  servlet_same : BestStandsFirst → (one path : List ℕ) → best_pattern (mapped_patterns mappings) one ≡ best_pattern (mapped_patterns mappings) path
      → servlet_at patterns one ≡ servlet_at patterns path
  servlet_same first one path same =
      ap (option_and_then (name_at patterns.names))
      (first (mapped_patterns mappings) one
      ∙ ap (option_and_then (λ text. position (λ pattern. bytes_eq pattern text) (mapped_patterns mappings))) same
      ∙ sym (first (mapped_patterns mappings) path))

  within_left : (text : List ℕ) → lists (all_patterns constraints) text ≡ true → lists all text ≡ true
  within_left text there = list_any-append (λ one. bytes_eq one text) (all_patterns constraints) (mapped_patterns mappings) ∙ or_left _ _ there

  within_right : (text : List ℕ) → lists (mapped_patterns mappings) text ≡ true → lists all text ≡ true
  within_right text there = list_any-append (λ one. bytes_eq one text) (all_patterns constraints) (mapped_patterns mappings) ∙ or_right _ _ there

  -- The pattern of the servlet of a shaped path matches a canonical path.
  live_at : BestIsAMatch → (path : List ℕ) → IsShaped path → (found : Option (List ℕ)) → best_pattern (mapped_patterns mappings) path ≡ found → is_pathless found ≡ false
  live_at matched path shaped None is = refl
  live_at matched path shaped (Some pattern) is = nothing_matches pattern path shaped (matched (mapped_patterns mappings) path pattern is).1

  complete_at : BestStandsFirst → BestIsAMatch → EachPathIsRepresented → (answers : Answers) (path : List ℕ) → IsShaped path
      → answers_in constraints mappings (best_pattern (all_patterns constraints) path) ≡ Some answers → includes answers (servlet_in constraints mappings path) ≡ true
  complete_at first matched represented answers path shaped is =
      let it = represented all path shaped.rooted in
      let answered : is_answered patterns it.0 ≡ true =
      ap (λ found. not (is_pathless found)) (it.2 (mapped_patterns mappings) within_right) ∙ ap not (live_at matched path shaped (best_pattern (mapped_patterns mappings) path) refl) in
      let has = tried patterns tried_paths it.0 (best_pattern (all_patterns constraints) path) (servlet_at patterns path)
      (in_kept (is_answered patterns) it.0 (representatives all) (in_listed (representatives all) it.0 it.1) answered) (it.2 (all_patterns constraints) within_left)
      (servlet_same first it.0 path (it.2 (mapped_patterns mappings) within_right)) in
      ap (λ found. includes found (servlet_at patterns path)) (listed_from (best_pattern (all_patterns constraints) path) answers is)
      ∙ included_by patterns _ (servlet_at patterns path) (λ name its. named_at patterns (best (mapped_patterns mappings) path) name its) has

  slashed_at : (path : List ℕ) → In path (representatives all) → is_rooted path ≡ true
  slashed_at path there = or_right _ _ (representative_slashed all path there)

  not_pathless : (pattern : Option (List ℕ)) (answers : Answers) (pathless : Bool) (found : Option Answers) → cond pathless None found ≡ Some answers → pathless ≡ false
  not_pathless pattern answers true found is = absurd cc
  not_pathless pattern answers false found is = refl

  right_at : (pattern : Option (List ℕ)) (answers : Answers) (servlet : Option (List ℕ)) → answers_in constraints mappings pattern ≡ Some answers → includes answers servlet ≡ true
      → (path : List ℕ) × (is_rooted path ≡ true) × (best_pattern (all_patterns constraints) path ≡ pattern) × (servlet_in constraints mappings path ≡ servlet)
      × (is_pathless pattern ≡ false) × (is_pathless (best_pattern (mapped_patterns mappings) path) ≡ false)
  right_at pattern answers servlet is included =
      let made = listed_from pattern answers is in
      let has = has_included patterns (rising patterns.names) _ servlet (sym (ap (λ found. includes found servlet) made) ∙ included) in
      let from = tried_from patterns tried_paths pattern servlet has in
      let kept = kept_in (is_answered patterns) from.0 (representatives all) from.1 in
      (from.0, slashed_at from.0 kept.0, from.2, from.3, not_pathless pattern answers (is_pathless pattern) _ is, not-true _ kept.1)

  listed_at : (pattern : Option (List ℕ)) → length (all_patterns constraints) + length (mapped_patterns mappings) ≤ MAX_ANSWERED_PATTERNS → is_pathless pattern ≡ false
      → is_some (answers_in constraints mappings pattern) ≡ true
  listed_at pattern few has = go (is_pathless pattern) (nat_lt MAX_ANSWERED_PATTERNS (length all)) has refl
    where
      size : length all ≡ length (all_patterns constraints) + length (mapped_patterns mappings)
      size = length-append (all_patterns constraints) (mapped_patterns mappings)

      not_many : nat_lt MAX_ANSWERED_PATTERNS (length all) ≡ true → ⊥
      not_many many = absurd (both_ways _ (rw size (grind (arith, few))) many)

      go : (pathless many : Bool) → pathless ≡ false → nat_lt MAX_ANSWERED_PATTERNS (length all) ≡ many
          → is_some (cond pathless None (option_map (answers_among pattern) (option_map (answered_among patterns) (cond many None (Some (representatives all)))))) ≡ true
      go true many has is = absurd (false≢true (sym has))
      go false true has many = absurd (not_many many)
      go false false has few = refl

pub answers_complete : BestStandsFirst → BestIsAMatch → CanonicalHasShape → EachPathIsRepresented → AnswersAreComplete
answers_complete first matched shapes represented constraints mappings answers path served is = complete_at constraints mappings first matched represented answers path (served_shaped shapes path served) is

pub answers_right : AnswersAreRight
answers_right constraints mappings pattern answers servlet is included = right_at constraints mappings pattern answers servlet is included

pub answers_listed : AnswersAreListed
answers_listed constraints mappings pattern few has = listed_at constraints mappings pattern few has
