-- No opened pattern, nothing uncovered, no difference of HEAD and no dead pattern is missed.
use Rattle.std.proofs.lemmas.List.Folds.{list_all_at, list_any-append, list_any_at}
use Rattle.std.proofs.lemmas.Bool.{false≢true}
use Rattle.std.proofs.lemmas.List.Elements.{All-head, All-tail}
use Rattle.std.proofs.Common.{arith, ◌≡◌, ℕ, Bool, true, false, not, ◌||◌, ◌&&◌, ◌==◌, List, [], ◌∷◌, ◌++◌, length, map, codes, refl, ap, ap₂, sym, ◌∙◌, cond, Option, None, Some}
use Rattle.std.specs.Prelude.{◌≢◌, All, Contains, filter, find, is_some, slice_index_or}
use Rattle.std.specs.Option.{option_and_then, option_map_or, option_to_list}
use Rattle.std.specs.List.{flat_map, list_all, list_any}
use Rattle.std.specs.Str.{bytes_eq}
use Rattle.sv_mapping.specs.BestMatch.{BestIsAMatch, best_pattern}
use Rattle.sv_realm.specs.declared.caller.Caller.{Caller}
use Rattle.sv_constraints.specs.Covering.{all_patterns, covering, covers_method, lists, patterns_in}
use Rattle.sv_constraints.specs.Verdict.{verdict_at}
use Rattle.sv_constraints.specs.declared.cause.Cause.{Cause}
use Rattle.sv_constraints.specs.declared.constraint.Constraint.{Constraint}
use Rattle.sv_constraints.specs.declared.constraint.Rules.{Rules}
use Rattle.sv_policy.proofs.Best.{any_in, or_right}
use Rattle.sv_policy.proofs.Listed.{any_seen, different_lists, length_seen, some_filtered}
use Rattle.sv_policy.proofs.Rising.{same_text}
use Rattle.sv_policy.proofs.Steps.{any_of_joined, any_same, passing_lists}
use Rattle.sv_policy.specs.Patterns.{different}
use Rattle.sv_policy.specs.Uncovered.{is_uncovered as is_uncovered_at}
use Rattle.sv_audit.proofs.Alikes.{differ_at, opened as opened_to}
use Rattle.sv_audit.proofs.Said.{said}
use Rattle.sv_audit.proofs.Equal.{and_left, and_right, both}
use Rattle.sv_findings.proofs.FindingLemmas.{changing_nothing, dead, extensions_all, fate_at, heads, in_row, late, not_reached, not_served, opened, partly_dead, readings, the_rows, uncovered}
use Rattle.sv_audit.proofs.Witness.{found}
use Rattle.sv_audit.proofs.Found.{in_texts, ordered_lists}
use Rattle.sv_audit.proofs.RowCells.{row_cell}
use Rattle.sv_audit.specs.Access.{cell_at, cell_for, fitting_caller}
use Rattle.sv_findings.proofs.OpenedLemmas.{contained, kept_all, kept_any, method_found, opened_exact, some_pair}
use Rattle.sv_findings.specs.Dead.{dead_patterns_in, decides_nothing, escaped, is_dead}
use Rattle.sv_findings.specs.FindingLaws.{AreFew, ChangesNothing, DeadIsFound, FaresDifferently, HeadIsFound, IsMet, IsShut, OpenedIsFound, OverruledIsFound, ReadingIsFound, UncoveredIsFound, UnreachedIsFound, configuration_of, says_dead, says_head, says_opened, says_overruled, says_read, says_uncovered, says_unreached}
use Rattle.sv_audit.specs.Callers.{has_method, is_open, same_callers}
use Rattle.sv_audit.specs.Visitors.{decided_by, effective}
use Rattle.sv_findings.specs.Findings.{findings_of, pattern_findings}
use Rattle.sv_findings.specs.LoginNeeds.{login_needs}
use Rattle.sv_findings.specs.RoleFindings.{role_findings}
use Rattle.sv_findings.specs.Uncovered.{is_left_open, is_left_out, uncovered_at}
use Rattle.sv_audit.specs.Shapes.{matches_nothing}
use Rattle.sv_findings.specs.Dead.{is_tried_late}
use Rattle.sv_findings.specs.MetRows.{is_met, is_row_met}
use Rattle.sv_findings.specs.Readings.{extensions_first, first_restricting, holds_one, is_extension_row, is_late, is_late_match, is_other_row, is_prefix, read_as, read_at, restricts_one, restricts_part, share_method}
use Rattle.sv_findings.proofs.OverruledLemmas.{is_over, matters_not}
use Rattle.sv_findings.specs.Overruled.{compared, is_overruled, overruled_in}
use Rattle.sv_findings.specs.Unreached.{is_unreached, unreached_in}
use Rattle.sv_findings.specs.declared.surroundings.Surroundings.{Surroundings}
use Rattle.sv_mapping.specs.Pattern.{form}
use Rattle.sv_constraints.specs.declared.constraint.Methods.{Methods}
use Rattle.sv_constraints.specs.declared.constraint.Methods.TheVariants.{All as AllMethods, Only, Except}
use Rattle.sv_findings.specs.Heads.{head_at, head_on, straying, strays}
use Rattle.sv_findings.specs.Opened.{is_opened, opened_at, opened_methods, opened_pair}
use Rattle.sv_audit.specs.Reading.{Kind, Passes, kind_and_cause}
use Rattle.sv_audit.specs.Rows.{in_row_order, match_every_path, other_paths, row_at, table_of}
use Rattle.sv_audit.specs.declared.access.Access.{Access}
use Rattle.sv_audit.specs.declared.access.Access.TheVariants.{Uncovered, UncoveredDenied, Precluded, NeedsTls, Everyone, AnyLogin, Roles}
use Rattle.sv_audit.specs.declared.access.Cell.{Cell}
use Rattle.sv_findings.specs.declared.finding.Finding.{Finding}
use Rattle.sv_findings.specs.declared.finding.Finding.TheVariants as finding
use Rattle.sv_audit.specs.declared.rows.Group.{Group}
use Rattle.sv_audit.specs.declared.rows.Row.{Row}

-- ---- Lists.
any_first : {X : Type 0} (test : X → Bool) (xs ys : List X) → list_any test xs ≡ true → list_any test (xs ++ ys) ≡ true
any_first test xs ys some = list_any-append test xs ys ∙ ap (λ b. b || list_any test ys) some

any_last : {X : Type 0} (test : X → Bool) (xs ys : List X) → list_any test ys ≡ true → list_any test (xs ++ ys) ≡ true
any_last test xs ys some = list_any-append test xs ys ∙ or_right (list_any test xs) (list_any test ys) some

-- ---- The access of uncovered and of covered methods.
uncovered_from : (none denied : Bool) (rest : Access) → none ≡ true → denied ≡ false → is_left_open (cond none (cond denied UncoveredDenied Uncovered) rest) ≡ true
uncovered_from true true rest is open_to_all = absurd (false≢true (sym open_to_all))
uncovered_from true false rest is open_to_all = refl
uncovered_from false denied rest is open_to_all = absurd (false≢true is)

covered_from : (none precluded transport lets_in any : Bool) (first : Access) (names : List (List ℕ)) → none ≡ false
    → is_left_open (cond none first (cond precluded Precluded (cond transport NeedsTls (cond lets_in Everyone (cond any AnyLogin (Roles names)))))) ≡ false
covered_from true precluded transport lets_in any first names is = absurd (false≢true (sym is))
covered_from false true transport lets_in any first names is = refl
covered_from false false true lets_in any first names is = refl
covered_from false false false true any first names is = refl
covered_from false false false false true first names is = refl
covered_from false false false false false first names is = refl

-- ---- The rows.
module _ (constraints : List Constraint) (rules : Rules) (pattern : List ℕ) where
  abbrev groups : List Group
  groups = (row_at constraints rules pattern).groups

  abbrev method_cell : List ℕ → Cell
  method_cell method = cell_at rules (Some pattern) (covering constraints (Some pattern) method)

  pub some_group : (method : List ℕ) → list_any (has_method method) groups ≡ true
  some_group method =
      sym (some_filtered (has_method method) groups)
      ∙ ap (λ n. not (n == 0)) (sym (length_seen (λ (x : Group). x.cell) (filter (has_method method) groups)) ∙ ap length (row_cell fitting_caller constraints rules pattern method))

  uncovered_cell : (method : List ℕ) → is_uncovered_at constraints pattern method ≡ true → rules.deny_uncovered ≡ false → is_left_open (method_cell method).access ≡ true
  unfolding cell_for
  uncovered_cell method none open_to_all = uncovered_from (length (covering constraints (Some pattern) method) == 0) rules.deny_uncovered _ none open_to_all

  covered_cell : (method : List ℕ) → is_uncovered_at constraints pattern method ≡ false → is_left_open (method_cell method).access ≡ false
  unfolding cell_for
  covered_cell method some = covered_from (length (covering constraints (Some pattern) method) == 0) _ _ _ _ _ _ some

  left_out : (method : List ℕ) → is_uncovered_at constraints pattern method ≡ true → rules.deny_uncovered ≡ false → list_any (λ (g : Group). is_left_out g && has_method method g) groups ≡ true
  left_out method none open_to_all =
      found (list_any (λ (g : Group). is_left_out g && has_method method g) groups ≡ true) (has_method method) groups (some_group method)
      (λ k d within has.
      list_any_at (λ (g : Group). is_left_out g && has_method method g) groups k d within
      (both (is_left_out (slice_index_or groups k d)) (has_method method (slice_index_or groups k d)) (ap (λ (c : Cell). is_left_open c.access) (in_row constraints rules pattern method k d within has) ∙ uncovered_cell method none open_to_all) has))

  not_all : (method : List ℕ) → is_uncovered_at constraints pattern method ≡ false → list_all is_left_out groups ≡ false
  not_all method some =
      found (list_all is_left_out groups ≡ false) (has_method method) groups (some_group method)
      (λ k d within has. list_all_at is_left_out groups k d within (ap (λ (c : Cell). is_left_open c.access) (in_row constraints rules pattern method k d within has) ∙ covered_cell method some))

  reported : (method other : List ℕ) → rules.deny_uncovered ≡ false → is_uncovered_at constraints pattern method ≡ true → is_uncovered_at constraints pattern other ≡ false → list_any (says_uncovered pattern method) (uncovered_at (Some pattern) groups) ≡ true
  reported method other open_to_all none some =
      ap (λ b. list_any (says_uncovered pattern method) (cond b [] (map (λ (group : Group). finding.Uncovered pattern group.methods) (filter is_left_out groups)))) (not_all other some)
      ∙ any_seen (says_uncovered pattern method) (λ (group : Group). finding.Uncovered pattern group.methods) (filter is_left_out groups)
      ∙ kept_any (λ (group : Group). bytes_eq pattern pattern && has_method method group) is_left_out groups
      ∙ any_same (λ (group : Group). is_left_out group && (bytes_eq pattern pattern && has_method method group)) (λ (group : Group). is_left_out group && has_method method group)
      (λ (group : Group). ap (λ b. is_left_out group && (b && has_method method group)) (same_text pattern)) groups
      ∙ left_out method none open_to_all

  -- A row that passes is found among the rows.
  row_listed : (test : Row → Bool) → lists (all_patterns constraints) pattern ≡ true → test (row_at constraints rules pattern) ≡ true → list_any test (table_of constraints rules).rows ≡ true
  row_listed test there some =
      any_first test (map (row_at constraints rules) (in_row_order (all_patterns constraints))) (cond (match_every_path (all_patterns constraints)) [] (other_paths ∷ []))
      (any_seen test (row_at constraints rules) (in_row_order (all_patterns constraints))
      ∙ any_in (λ p. test (row_at constraints rules p)) (in_row_order (all_patterns constraints)) pattern (ordered_lists (all_patterns constraints) pattern ∙ there) some)

  -- It is found among the rows that requests meet, if they meet it.
  pub row_found : (surroundings : Surroundings) (test : Row → Bool) → lists (all_patterns constraints) pattern ≡ true → IsMet constraints surroundings pattern → test (row_at constraints rules pattern) ≡ true
      → list_any test (the_rows constraints rules surroundings) ≡ true
  row_found surroundings test there reached some =
      kept_any test (is_row_met surroundings.contexts surroundings.path (all_patterns constraints)) (table_of constraints rules).rows
      ∙ row_listed (λ (row : Row). is_row_met surroundings.contexts surroundings.path (all_patterns constraints) row && test row) there
      (both (is_met surroundings.contexts surroundings.path (all_patterns constraints) pattern) (test (row_at constraints rules pattern)) reached some)

  -- What is found at the row of a reached pattern is found in the table.
  in_table : (surroundings : Surroundings) (test : Finding → Bool) (at : Option (List ℕ) → List Group → List Finding) → lists (all_patterns constraints) pattern ≡ true → IsMet constraints surroundings pattern → list_any test (at (Some pattern) groups) ≡ true
      → list_any test (flat_map (λ (row : Row). at row.pattern row.groups) (the_rows constraints rules surroundings)) ≡ true
  in_table surroundings test at there reached some =
      any_of_joined test (λ (row : Row). at row.pattern row.groups) (the_rows constraints rules surroundings)
      ∙ row_found surroundings (λ (row : Row). list_any test (at row.pattern row.groups)) there reached some

-- ---- The parts of all findings.
module _ (constraints : List Constraint) (rules : Rules) (surroundings : Surroundings) (test : Finding → Bool) where
  abbrev IsAmong : Type 0
  IsAmong = list_any test (findings_of constraints rules (table_of constraints rules) surroundings) ≡ true

  abbrev o : List Finding
  o = opened constraints rules surroundings

  abbrev u : List Finding
  u = uncovered constraints rules surroundings

  abbrev r : List Finding
  r = readings constraints rules surroundings

  abbrev h : List Finding
  h = heads constraints rules surroundings

  abbrev d : List Finding
  d = dead constraints rules surroundings

  abbrev p : List Finding
  p = partly_dead constraints rules surroundings

  abbrev c : List Finding
  c = changing_nothing constraints rules surroundings

  abbrev n : List Finding
  n = not_reached constraints rules surroundings

  abbrev by_row : List Finding
  by_row = o ++ u ++ r ++ h

  abbrev by_pattern : List Finding
  by_pattern = pattern_findings constraints rules surroundings.contexts surroundings.path surroundings

  abbrev by_page : List Finding
  by_page = login_needs surroundings.contexts surroundings.path constraints rules surroundings.has_login (the_rows constraints rules surroundings) surroundings.login_page

  abbrev by_role : List Finding
  by_role = role_findings rules.declared surroundings.held constraints

  among_rows : list_any test by_row ≡ true → IsAmong
  among_rows some = any_first test (by_row ++ by_pattern ++ by_page) by_role (any_first test (by_row ++ by_pattern) by_page (any_first test by_row by_pattern some))

  among_patterns : list_any test by_pattern ≡ true → IsAmong
  among_patterns some = any_first test (by_row ++ by_pattern ++ by_page) by_role (any_first test (by_row ++ by_pattern) by_page (any_last test by_row by_pattern some))

  pub among_page : list_any test by_page ≡ true → IsAmong
  among_page some = any_first test (by_row ++ by_pattern ++ by_page) by_role (any_last test (by_row ++ by_pattern) by_page some)

  among_opened : list_any test o ≡ true → IsAmong
  among_opened some = among_rows (any_first test (o ++ u ++ r) h (any_first test (o ++ u) r (any_first test o u some)))

  among_uncovered : list_any test u ≡ true → IsAmong
  among_uncovered some = among_rows (any_first test (o ++ u ++ r) h (any_first test (o ++ u) r (any_last test o u some)))

  among_readings : list_any test r ≡ true → IsAmong
  among_readings some = among_rows (any_first test (o ++ u ++ r) h (any_last test (o ++ u) r some))

  among_heads : list_any test h ≡ true → IsAmong
  among_heads some = among_rows (any_last test (o ++ u ++ r) h some)

  abbrev s : List Finding
  s = not_served constraints rules surroundings

  among_first : list_any test (d ++ p ++ c ++ n) ≡ true → IsAmong
  among_first some = among_patterns (any_first test (d ++ p ++ c ++ n ++ s) (escaped constraints) (any_first test (d ++ p ++ c ++ n) s some))

  among_dead : list_any test d ≡ true → IsAmong
  among_dead some = among_first (any_first test (d ++ p ++ c) n (any_first test (d ++ p) c (any_first test d p some)))

  among_partly_dead : list_any test p ≡ true → IsAmong
  among_partly_dead some = among_first (any_first test (d ++ p ++ c) n (any_first test (d ++ p) c (any_last test d p some)))

  among_changing_nothing : list_any test c ≡ true → IsAmong
  among_changing_nothing some = among_first (any_first test (d ++ p ++ c) n (any_last test (d ++ p) c some))

  pub among_not_served : list_any test s ≡ true → IsAmong
  among_not_served some = among_patterns (any_first test (d ++ p ++ c ++ n ++ s) (escaped constraints) (any_last test (d ++ p ++ c ++ n) s some))

  among_not_reached : list_any test n ≡ true → IsAmong
  among_not_reached some = among_first (any_last test (d ++ p ++ c) n some)

pub uncovered_found : UncoveredIsFound
uncovered_found constraints rules surroundings pattern method other reached open_to_all there none some =
    among_uncovered constraints rules surroundings (says_uncovered pattern method)
    (in_table constraints rules pattern surroundings (says_uncovered pattern method) uncovered_at there reached (reported constraints rules pattern method other open_to_all none some))

-- ---- Opened patterns.
reported_pair : (constraints : List Constraint) (pattern method : List ℕ) (found : Option (ℕ × ℕ)) → is_some found ≡ true → covers_method (opened_methods constraints pattern) method ≡ true
    → list_any (says_opened pattern method) (map (λ (pair : ℕ × ℕ). finding.Opened pattern (opened_methods constraints pattern) pair.0 pair.1) (option_to_list found)) ≡ true
reported_pair constraints pattern method None some has = absurd (false≢true some)
reported_pair constraints pattern method (Some pair) some has = ap (λ b. b || false) (both (bytes_eq pattern pattern) (covers_method (opened_methods constraints pattern) method) (same_text pattern) has)

pub opened_found : BestIsAMatch → OpenedIsFound
opened_found best_is_a_match constraints rules surroundings pattern method path reached restricted best passing =
    let opens : is_opened constraints pattern method ≡ true = method_found constraints pattern rules method restricted (sym (ap (λ b. kind_and_cause (verdict_at rules None b (covering constraints b method))) best) ∙ passing) in
    among_opened constraints rules surroundings (says_opened pattern method)
    (in_table constraints rules pattern surroundings (says_opened pattern method) (λ its_pattern groups. opened_at constraints its_pattern) (in_texts (all_patterns constraints) pattern (best_is_a_match (all_patterns constraints) path pattern best).0) reached
    (reported_pair constraints pattern method (opened_pair constraints pattern) (some_pair constraints pattern method opens) (opened_exact constraints pattern method ∙ opens)))

-- ---- Dead patterns.
pub same_number : (n : ℕ) → (n == n) ≡ true
same_number n = grind arith

-- A text that passes is among the different ones, and a test finds it with the number.
pub once_any : (number : ℕ) (test : List ℕ → Bool) (texts : List (List ℕ)) (text : List ℕ) → lists texts text ≡ true → test text ≡ true → list_any (λ one. (number == number) && bytes_eq one text) (different (filter test texts)) ≡ true
once_any number test texts text listed passes =
    any_in (λ one. (number == number) && bytes_eq one text) (different (filter test texts)) text
    (different_lists (filter test texts) text ∙ passing_lists test texts text ∙ both (lists texts text) (test text) listed passes)
    (both (number == number) (bytes_eq text text) (same_number number) (same_text text))

module _ (constraints : List Constraint) (rules : Rules) (surroundings : Surroundings) (c : Constraint) (pattern : List ℕ) (there : Contains constraints c) (listed : lists (patterns_in c) pattern ≡ true) where
  abbrev patterns : List (List ℕ)
  patterns = all_patterns constraints

  dead_found_at : decides_nothing patterns pattern ≡ true → (all_dead : Bool) → is_dead patterns c ≡ all_dead → list_any (says_dead c.number pattern) (findings_of constraints rules (table_of constraints rules) surroundings) ≡ true
  dead_found_at nothing true is =
      among_dead constraints rules surroundings (says_dead c.number pattern)
      (any_seen (says_dead c.number pattern) (λ (x : Constraint). finding.Dead x.number) (filter (is_dead patterns) constraints)
      ∙ kept_any (λ (x : Constraint). x.number == c.number) (is_dead patterns) constraints
      ∙ contained (λ (x : Constraint). is_dead patterns x && (x.number == c.number)) constraints c there (both (is_dead patterns c) (c.number == c.number) is (same_number c.number)))
  dead_found_at nothing false is =
      among_partly_dead constraints rules surroundings (says_dead c.number pattern)
      (any_of_joined (says_dead c.number pattern) (dead_patterns_in patterns) constraints
      ∙ contained (λ (x : Constraint). list_any (says_dead c.number pattern) (dead_patterns_in patterns x)) constraints c there
      (ap (λ b. list_any (says_dead c.number pattern) (cond b [] (map (finding.DeadPattern c.number) (different (filter (decides_nothing patterns) (patterns_in c)))))) is
      ∙ any_seen (says_dead c.number pattern) (finding.DeadPattern c.number) (different (filter (decides_nothing patterns) (patterns_in c)))
      ∙ once_any c.number (decides_nothing patterns) (patterns_in c) pattern listed nothing))

pub dead_found : DeadIsFound
dead_found constraints rules surroundings c pattern there listed nothing = dead_found_at constraints rules surroundings c pattern there listed nothing (is_dead (all_patterns constraints) c) refl

-- ---- The same callers fare alike.
module _ (constraints : List Constraint) (rules : Rules) (surroundings : Surroundings) (pattern path : List ℕ) (visitor : Option Caller) (best : best_pattern (all_patterns constraints) path ≡ Some pattern) (apart : FaresDifferently (configuration_of constraints rules surroundings) path visitor) where
  abbrev the_groups : List Group
  the_groups = (row_at constraints rules pattern).groups

  abbrev met_with : Group → Access
  met_with group = effective surroundings.has_login group.cell.access

  strays_here : (get head : Group) → get.cell ≡ cell_at rules (Some pattern) (covering constraints (Some pattern) (codes "GET")) → head.cell ≡ cell_at rules (Some pattern) (covering constraints (Some pattern) (codes "HEAD")) → not (same_callers (met_with get) (met_with head)) ≡ true
  strays_here get head is was =
      differ_at visitor (met_with get) (met_with head) (same_callers (met_with get) (met_with head)) refl
      (λ same. apart (fate_at constraints rules surroundings pattern (codes "GET") path visitor get.cell best is ∙ same ∙ sym (fate_at constraints rules surroundings pattern (codes "HEAD") path visitor head.cell best was)))

  straying_found : (get : Group) → get.cell ≡ cell_at rules (Some pattern) (covering constraints (Some pattern) (codes "GET")) → list_any (says_head pattern) (straying surroundings.has_login pattern the_groups get.cell.access) ≡ true
  straying_found get is =
      any_seen (says_head pattern) (λ (head : Group). finding.HeadDiffers pattern get.cell.access head.cell.access) (filter (strays surroundings.has_login get.cell.access) the_groups)
      ∙ kept_any (λ (head : Group). bytes_eq pattern pattern) (strays surroundings.has_login get.cell.access) the_groups
      ∙ found (list_any (λ (head : Group). strays surroundings.has_login get.cell.access head && bytes_eq pattern pattern) the_groups ≡ true) (has_method (codes "HEAD")) the_groups (some_group constraints rules pattern (codes "HEAD"))
      (λ j e inside head_has.
      let head : Group = slice_index_or the_groups j e in
      list_any_at (λ (one : Group). strays surroundings.has_login get.cell.access one && bytes_eq pattern pattern) the_groups j e inside
      (both (strays surroundings.has_login get.cell.access head) (bytes_eq pattern pattern)
      (both (has_method (codes "HEAD") head) (not (same_callers (met_with get) (met_with head))) head_has (strays_here get head is (in_row constraints rules pattern (codes "HEAD") j e inside head_has)))
      (same_text pattern)))

  head_reported : list_any (says_head pattern) (head_on surroundings.has_login pattern the_groups) ≡ true
  head_reported =
      any_of_joined (says_head pattern) (λ (get : Group). straying surroundings.has_login pattern the_groups get.cell.access) (filter (has_method (codes "GET")) the_groups)
      ∙ kept_any (λ (get : Group). list_any (says_head pattern) (straying surroundings.has_login pattern the_groups get.cell.access)) (has_method (codes "GET")) the_groups
      ∙ found (list_any (λ (get : Group). has_method (codes "GET") get && list_any (says_head pattern) (straying surroundings.has_login pattern the_groups get.cell.access)) the_groups ≡ true) (has_method (codes "GET")) the_groups (some_group constraints rules pattern (codes "GET"))
      (λ k d within get_has.
      let get : Group = slice_index_or the_groups k d in
      list_any_at (λ (one : Group). has_method (codes "GET") one && list_any (says_head pattern) (straying surroundings.has_login pattern the_groups one.cell.access)) the_groups k d within
      (both (has_method (codes "GET") get) (list_any (says_head pattern) (straying surroundings.has_login pattern the_groups get.cell.access)) get_has (straying_found get (in_row constraints rules pattern (codes "GET") k d within get_has))))

pub head_found : BestIsAMatch → HeadIsFound
head_found best_is_a_match constraints rules surroundings pattern path visitor reached best apart =
    among_heads constraints rules surroundings (says_head pattern)
    (in_table constraints rules pattern surroundings (says_head pattern) (head_at surroundings.has_login) (in_texts (all_patterns constraints) pattern (best_is_a_match (all_patterns constraints) path pattern best).0) reached
    (head_reported constraints rules surroundings pattern path visitor best apart))

-- ---- What is read otherwise.
any_covered : (methods : Methods) (names : List (List ℕ)) (method : List ℕ) → covers_method methods method ≡ true → lists names method ≡ true → list_any (covers_method methods) names ≡ true
any_covered methods names method has there = any_in (covers_method methods) names method there has

holding : (methods others : Methods) (method : List ℕ) → covers_method methods method ≡ true → covers_method others method ≡ true → holds_one methods others ≡ true
holding methods AllMethods method one two = refl
holding methods (Only names) method one two = any_covered methods names method one two
holding methods (Except names) method one two = refl

sharing : (methods others : Methods) (method : List ℕ) → covers_method methods method ≡ true → covers_method others method ≡ true → share_method methods others ≡ true
sharing AllMethods others method one two = holding AllMethods others method one two
sharing (Only names) others method one two = any_covered others names method two one
sharing (Except names) others method one two = holding (Except names) others method one two

closed_from : (access : Access) (lets_in : Bool) → is_open access ≡ lets_in → decided_by access None ≢ Passes → not (is_open access) ≡ true
closed_from access true is stopped = absurd (stopped (opened_to None access is))
closed_from access false is stopped = ap not is

module _ (constraints : List Constraint) (rules : Rules) (other : List ℕ) where
  cell_shut : (method : List ℕ) → IsShut constraints rules other method → not (is_open (cell_at rules (Some other) (covering constraints (Some other) method)).access) ≡ true
  unfolding cell_for
  cell_shut method shut =
      let access : Access = (cell_at rules (Some other) (covering constraints (Some other) method)).access in
      closed_from access (is_open access) refl (λ passes. shut (sym (ap (λ (x : Kind × Cause). x.0) (said rules None (Some other) (covering constraints (Some other) method))) ∙ passes))

  row_restricts : (methods : Methods) (method : List ℕ) → covers_method methods method ≡ true → IsShut constraints rules other method → restricts_one methods (row_at constraints rules other) ≡ true
  row_restricts methods method has shut =
      let its : List Group = (row_at constraints rules other).groups in
      found (list_any (restricts_part methods) its ≡ true) (has_method method) its (some_group constraints rules other method)
      (λ k d within it.
      list_any_at (restricts_part methods) its k d within
      (both (not (is_open (slice_index_or its k d).cell.access)) (share_method methods (slice_index_or its k d).methods)
      (ap (λ (c : Cell). not (is_open c.access)) (in_row constraints rules other method k d within it) ∙ cell_shut method shut)
      (sharing methods (slice_index_or its k d).methods method has it)))

-- The first row that restricts one of the methods has a pattern.
found_pattern : (methods : Methods) (rows : List Row) → All (λ (row : Row). is_late row ≡ true) rows → list_any (restricts_one methods) rows ≡ true → is_some (first_restricting rows methods) ≡ true
found_pattern methods rows tried some = by_rows rows tried some
  where
    has_pattern : (pattern : Option (List ℕ)) → option_map_or is_late_match pattern false ≡ true → is_some pattern ≡ true
    has_pattern None none = absurd (false≢true none)
    has_pattern (Some text) tried_late = refl

    first_at : (row : Row) (rest : List Row) (covered : Bool) → is_late row ≡ true → (covered || list_any (restricts_one methods) rest) ≡ true → (list_any (restricts_one methods) rest ≡ true → is_some (first_restricting rest methods) ≡ true)
        → is_some (option_and_then (λ (one : Row). one.pattern) (cond covered (Some row) (find (restricts_one methods) rest))) ≡ true
    first_at row rest true late_one any later = has_pattern row.pattern late_one
    first_at row rest false late_one any later = later any

    by_rows : (all : List Row) → All (λ (row : Row). is_late row ≡ true) all → list_any (restricts_one methods) all ≡ true → is_some (first_restricting all methods) ≡ true
    by_rows [] late_ones any = absurd (false≢true any)
    by_rows (row ∷ rest) late_ones any =
        first_at row rest (restricts_one methods row) (All-head (λ (one : Row). is_late one ≡ true) row rest late_ones) any (by_rows rest (All-tail (λ (one : Row). is_late one ≡ true) row rest late_ones))

-- A row that passes is among the rows in another order.
either_at : (is passing one other : Bool) → (((is && passing) || one) || ((not is && passing) || other)) ≡ (passing || (one || other))
either_at true true one other = refl
either_at true false one other = refl
either_at false true true other = refl
either_at false true false other = refl
either_at false false one other = refl

either_any : (test : Row → Bool) (rows : List Row) → (list_any (λ (row : Row). is_extension_row row && test row) rows || list_any (λ (row : Row). is_other_row row && test row) rows) ≡ list_any test rows
either_any test [] = refl
either_any test (row ∷ rows) =
    either_at (is_extension_row row) (test row) (list_any (λ (one : Row). is_extension_row one && test one) rows) (list_any (λ (one : Row). is_other_row one && test one) rows)
    ∙ ap (λ b. test row || b) (either_any test rows)

extensions_any : (test : Row → Bool) (rows : List Row) → list_any test rows ≡ true → list_any test (extensions_first rows) ≡ true
extensions_any test rows some =
    list_any-append test (filter is_extension_row rows) (filter is_other_row rows)
    ∙ ap₂ (λ a b. a || b) (kept_any test is_extension_row rows) (kept_any test is_other_row rows)
    ∙ either_any test rows ∙ some

reported_reading : (pattern method : List ℕ) (methods : Methods) (other : Option (List ℕ)) → is_some other ≡ true → covers_method methods method ≡ true → list_any (says_read pattern method) (map (finding.ReadOtherwise pattern methods) (option_to_list other)) ≡ true
reported_reading pattern method methods None some has = absurd (false≢true some)
reported_reading pattern method methods (Some other) some has = ap (λ b. b || false) (both (bytes_eq pattern pattern) (covers_method methods method) (same_text pattern) has)

module _ (constraints : List Constraint) (rules : Rules) (surroundings : Surroundings) (pattern method other : List ℕ) (met : matches_nothing other ≡ false) (listed : lists (all_patterns constraints) other ≡ true) (tried : is_tried_late other ≡ true) (shut : IsShut constraints rules other method) where
  abbrev late_ones : List Row
  late_ones = late constraints rules surroundings

  restricting_some : (methods : Methods) → covers_method methods method ≡ true → list_any (restricts_one methods) late_ones ≡ true
  restricting_some methods has =
      extensions_any (restricts_one methods) (filter is_late (table_of constraints rules).rows)
      (kept_any (restricts_one methods) is_late (table_of constraints rules).rows
      ∙ row_listed constraints rules other (λ (row : Row). is_late row && restricts_one methods row) listed
      (both (is_late (row_at constraints rules other)) (restricts_one methods (row_at constraints rules other)) (both (is_tried_late other) (not (matches_nothing other)) tried (ap not met)) (row_restricts constraints rules other methods method has shut)))

  all_late : All (λ (row : Row). is_late row ≡ true) late_ones
  all_late =
      extensions_all (λ (row : Row). is_late row ≡ true) (filter is_late (table_of constraints rules).rows)
      (kept_all (λ (row : Row). is_late row ≡ true) is_late (table_of constraints rules).rows (λ k d within late_one. late_one))

  read_group : (group : Group) → has_method method group ≡ true → list_any (says_read pattern method) (read_as late_ones pattern group.methods) ≡ true
  read_group group has = reported_reading pattern method group.methods (first_restricting late_ones group.methods) (found_pattern group.methods late_ones all_late (restricting_some group.methods has)) has

  reading_reported : is_prefix (form pattern) ≡ true → rules.deny_uncovered ≡ false → is_uncovered_at constraints pattern method ≡ true → list_any (says_read pattern method) (read_at late_ones (Some pattern) (groups constraints rules pattern)) ≡ true
  reading_reported prefixed open_to_all none =
      ap (λ b. list_any (says_read pattern method) (cond b (flat_map (λ (group : Group). read_as late_ones pattern group.methods) (filter is_left_out (groups constraints rules pattern))) [])) prefixed
      ∙ any_of_joined (says_read pattern method) (λ (group : Group). read_as late_ones pattern group.methods) (filter is_left_out (groups constraints rules pattern))
      ∙ kept_any (λ (group : Group). list_any (says_read pattern method) (read_as late_ones pattern group.methods)) is_left_out (groups constraints rules pattern)
      ∙ found (list_any (λ (group : Group). is_left_out group && list_any (says_read pattern method) (read_as late_ones pattern group.methods)) (groups constraints rules pattern) ≡ true) (λ (g : Group). is_left_out g && has_method method g) (groups constraints rules pattern) (left_out constraints rules pattern method none open_to_all)
      (λ k d within it.
      let group : Group = slice_index_or (groups constraints rules pattern) k d in
      list_any_at (λ (one : Group). is_left_out one && list_any (says_read pattern method) (read_as late_ones pattern one.methods)) (groups constraints rules pattern) k d within
      (both (is_left_out group) (list_any (says_read pattern method) (read_as late_ones pattern group.methods)) (and_left (is_left_out group) (has_method method group) it) (read_group group (and_right (is_left_out group) (has_method method group) it))))

pub reading_found : ReadingIsFound
reading_found constraints rules surroundings pattern method other reached met open_to_all there listed prefixed tried none shut =
    among_readings constraints rules surroundings (says_read pattern method)
    (in_table constraints rules pattern surroundings (says_read pattern method) (read_at (late constraints rules surroundings)) there reached
    (reading_reported constraints rules surroundings pattern method other met listed tried shut prefixed open_to_all none))

-- ---- Overruled constraints.
pub overruled_found : OverruledIsFound
overruled_found constraints rules surroundings c there alive each =
    let full : List Constraint = compared surroundings constraints in
    let over : is_overruled rules full (all_patterns full) c ≡ true =
    is_over full rules (all_patterns full) c there alive (λ pattern listed some. let it : AreFew full pattern × ChangesNothing full rules c pattern = each pattern listed some in matters_not full rules c pattern it.0 it.1) in
    among_changing_nothing constraints rules surroundings (says_overruled c.number)
    (any_of_joined (says_overruled c.number) (overruled_in rules full (all_patterns full)) full
    ∙ contained (λ (x : Constraint). list_any (says_overruled c.number) (overruled_in rules full (all_patterns full) x)) full c there
    (ap (λ b. list_any (says_overruled c.number) (cond b (finding.Overruled c.number ∷ []) [])) over ∙ ap (λ b. b || false) (same_number c.number)))

-- ---- Unreached patterns.
pub unreached_found : UnreachedIsFound
unreached_found constraints rules surroundings c pattern there listed none =
    let is_out : List ℕ → Bool = is_unreached surroundings.contexts surroundings.path in
    among_not_reached constraints rules surroundings (says_unreached c.number pattern)
    (any_of_joined (says_unreached c.number pattern) (unreached_in surroundings.contexts surroundings.path) constraints
    ∙ contained (λ (x : Constraint). list_any (says_unreached c.number pattern) (unreached_in surroundings.contexts surroundings.path x)) constraints c there
    (any_seen (says_unreached c.number pattern) (finding.Unreached c.number) (different (filter is_out (patterns_in c)))
    ∙ once_any c.number is_out (patterns_in c) pattern listed (ap not none)))
