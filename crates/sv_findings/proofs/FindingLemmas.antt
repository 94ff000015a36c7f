-- Each finding is right.
use Rattle.std.proofs.lemmas.Bool.{not-true, and_parts, false≢true, or_cases, or_parts}
use Rattle.std.proofs.lemmas.Bool.Decides.{Decides-eqb}
use Rattle.std.proofs.lemmas.List.Elements.{All-append, All-cons, All-contains, All-contains_itself, All-head, All-map, All-nil, All-same, All-tail}
use Rattle.std.proofs.lemmas.List.Sums.{AllPass-from_list_all}
use Rattle.std.proofs.lemmas.Slice.Eq.{bytes_eq-Decides, starts_is}
use Rattle.std.proofs.Common.{◌≡◌, ℕ, ◌<◌, Bool, true, false, not, ◌||◌, ◌&&◌, List, [], ◌∷◌, ◌++◌, map, length, drop, take, take-append-drop, codes, refl, ap, sym, ◌∙◌, cond, Option, None, Some, inl, inr, ◌==◌, ◌⊎◌}
use Rattle.std.specs.Prelude.{All, Contains, Err, IsTrue, Ok, Result, filter, find, nat_eq, slice_index_or}
use Rattle.std.specs.List.{ends_with, flat_map, list_all, list_any}
use Rattle.std.specs.Option.{option_and_then, option_map_or, option_or, option_to_list}
use Rattle.std.specs.Str.{bytes_eq}
use Rattle.sv_mapping.specs.Protected.{is_protected}
use Rattle.sv_mapping.specs.BestMatch.{best_pattern, is_best, outranks}
use Rattle.sv_mapping.specs.Pattern.{Form, Root, Default, Extension, Prefix, Exact, form, is_at_or_below, is_extension_pattern, matches}
use Rattle.sv_realm.specs.declared.caller.Caller.{Caller}
use Rattle.sv_constraints.specs.Covering.{all_patterns, covering, covers, covers_method, lists, patterns_in}
use Rattle.sv_constraints.specs.Verdict.{verdict, verdict_at}
use Rattle.sv_constraints.specs.declared.cause.Cause.{Cause}
use Rattle.sv_constraints.specs.declared.cause.Cause.TheVariants as cause
use Rattle.sv_constraints.specs.declared.constraint.Auth.{Auth}
use Rattle.sv_constraints.specs.declared.constraint.Auth.TheVariants as auth
use Rattle.sv_constraints.specs.declared.constraint.Constraint.{Constraint}
use Rattle.sv_constraints.specs.declared.constraint.Methods.{Methods}
use Rattle.sv_constraints.specs.declared.constraint.Methods.TheVariants.{All as AllMethods, Only, Except}
use Rattle.sv_constraints.specs.declared.constraint.Rules.{Rules}
use Rattle.sv_policy.proofs.Best.{found_in, or_right}
use Rattle.sv_policy.proofs.Listed.{covers_listed, different_lists, listed_by}
use Rattle.sv_policy.proofs.Rising.{rising_lists}
use Rattle.sv_policy.proofs.Steps.{any_of_joined, passing_lists}
use Rattle.sv_policy.specs.Patterns.{different}
use Rattle.sv_policy.specs.Uncovered.{is_uncovered}
use Rattle.std.proofs.lemmas.List.Folds.{list_any-append}
use Rattle.sv_uri.specs.Shape.{CanonicalHasShape}
use Rattle.sv_audit.proofs.Callers.{apart, opens}
use Rattle.sv_audit.proofs.VisitorLemmas.{fate_by}
use Rattle.sv_audit.proofs.Equal.{and_left, and_right, both}
use Rattle.sv_audit.proofs.Filters.{all_fail}
use Rattle.sv_audit.proofs.Found.{any_of, in_texts, ordered_lists, root_matches}
use Rattle.sv_audit.proofs.RowCells.{row_cell}
use Rattle.sv_audit.proofs.Said.{said}
use Rattle.sv_audit.proofs.Witness.{found}
use Rattle.sv_audit.specs.Access.{cell_at, cell_for, fitting_caller, roles_meant}
use Rattle.sv_findings.proofs.OpenedLemmas.{AreOpen, AreOpenFor, are_open, fresh, is_fresh, kept_all, opened_exact, some_open}
use Rattle.sv_audit.proofs.Shapes.{IsShaped, nothing_matches, served_shaped}
use Rattle.sv_findings.specs.Dead.{is_tried_late, dead_among, dead_patterns, dead_patterns_in, decides_nothing, escaped, escaped_in, exact_pattern, is_beaten, is_beaten_folder, is_dead, is_escaped}
use Rattle.sv_audit.specs.Shapes.{matches_nothing}
use Rattle.sv_findings.specs.FindingLaws.{BestDecides, ChangesNothing, FindingsAreRight, IsBase, IsMeant, IsMet, IsNeverBest, IsOpen, IsOverruled, IsRestricted, IsRight, IsShut, LeadsToLogin, Means, configuration_of, names_in}
use Rattle.sv_audit.specs.Shapes.{IsServed}
use Rattle.sv_findings.specs.Opened.{opened_at, opened_for, opened_methods, opened_pair}
use Rattle.sv_findings.specs.RoleFindings.{is_role, is_unheld, is_unknown, is_unused, named_roles, role_findings, unheld_roles, unknown_among, unknown_roles, unused_roles}
use Rattle.sv_audit.specs.Callers.{has_method, is_open, same_callers}
use Rattle.sv_findings.specs.Findings.{findings_of, met_rows, pattern_findings, row_findings}
use Rattle.sv_findings.proofs.FolderLemmas.{taken}
use Rattle.sv_findings.proofs.OverruledLemmas.{changes_nothing, not_at}
use Rattle.sv_findings.specs.Overruled.{compared, is_overruled, overruled, overruled_in}
use Rattle.sv_findings.specs.Uncovered.{is_left_open, is_left_out, uncovered_at}
use Rattle.sv_findings.specs.MetRows.{is_pattern_met, is_row_met}
use Rattle.sv_findings.specs.Reach.{is_reached}
use Rattle.sv_findings.specs.Readings.{extensions_first, first_restricting, is_extension_row, is_late, is_late_match, is_other_row, is_prefix, late_rows, read_as, read_at, read_otherwise, restricts_one, restricts_part, share_method}
use Rattle.sv_findings.proofs.MeetingForms.{none_held, none_meets}
use Rattle.sv_findings.specs.LoginNeeds.{asked_at, asked_folders, bars, base_folders, first_given, folder_of, folder_of_form, target_in, is_absolute, is_asked, is_barred, loaded_references, login_needs, needed_at, needed_by, needed_of, needed_paths, path_part}
use Rattle.sv_findings.specs.declared.asked_folders.TheConstants.{MAX_ASKED_FOLDERS}
use Rattle.sv_findings.specs.declared.surroundings.LoginPage.{LoginPage}
use Rattle.sv_findings.specs.Reach.{serves}
use Rattle.sv_constraints.specs.declared.owned_decision.OwnedDecision.{OwnedDecision}
use Rattle.sv_constraints.specs.declared.owned_decision.OwnedDecision.TheVariants.{Open, Login, Denied}
use Rattle.sv_uri.specs.Canonical.{canonical}
use Rattle.sv_uri.specs.declared.fault.PathFault.{PathFault}
use Rattle.sv_uri.specs.declared.path.Canon.{Canon}
use Rattle.sv_mapping.specs.Within.{path_within}
use Rattle.sv_findings.specs.Unserved.{are_many, is_unserved, may_answer, may_be_among, reached_files, unserved, unserved_among, unserved_in}
use Rattle.sv_findings.specs.Unreached.{is_unreached, unreached, unreached_in}
use Rattle.sv_findings.specs.declared.surroundings.Surroundings.{Surroundings}
use Rattle.sv_findings.specs.Heads.{head_at, head_on, straying, strays}
use Rattle.sv_audit.specs.Configurations.{fate_of}
use Rattle.sv_audit.specs.Visitors.{decided_by, effective, known, needs_login}
use Rattle.sv_audit.specs.Reading.{IsDenied, Kind, NeedsLogin, Passes, kind_and_cause, said_to}
use Rattle.sv_audit.specs.Rows.{in_row_order, match_every_path, other_paths, row_at, table_of}
use Rattle.sv_audit.specs.declared.access.Access.{Access}
use Rattle.sv_audit.specs.declared.access.Access.TheVariants.{Unconstrained, Uncovered, UncoveredDenied, Precluded, NeedsTls, Everyone, AnyLogin, Roles}
use Rattle.sv_audit.specs.declared.access.Cell.{Cell}
use Rattle.sv_findings.specs.declared.finding.Finding.{Finding}
use Rattle.sv_findings.specs.declared.finding.Finding.TheVariants as finding
use Rattle.sv_audit.specs.declared.rows.Group.{Group}
use Rattle.sv_audit.specs.declared.rows.Row.{Row}

-- ---- Lists.
joined : {A X : Type 0} (P : X → Type 0) (f : A → List X) (xs : List A) → All (λ a. All P (f a)) xs → All P (flat_map f xs)
joined P f [] all = All-nil P
joined P f (x ∷ xs) all = All-append P (f x) (flat_map f xs) (All-head (λ a. All P (f a)) x xs all) (joined P f xs (All-tail (λ a. All P (f a)) x xs all))

-- What holds of each text that passes holds of the different ones.
once_all : (P : List ℕ → Type 0) (test : List ℕ → Bool) (texts : List (List ℕ)) → ((text : List ℕ) → lists texts text ≡ true → test text ≡ true → P text) → All P (different (filter test texts))
once_all P test texts each = λ k d within.
    let kept : List (List ℕ) = different (filter test texts) in
    let text : List ℕ = slice_index_or kept k d in
    let its : (lists texts text ≡ true) × (test text ≡ true) =
    and_parts (lists texts text) (test text) (sym (passing_lists test texts text) ∙ sym (different_lists (filter test texts) text) ∙ in_texts kept text (All-contains_itself kept k d within)) in
    each text its.0 its.1

-- ---- The groups of a row that have a method have its cell.
module _ (method : List ℕ) (cell : Cell) where
  group_at : (g : Group) (gs : List Group) (b : Bool) → has_method method g ≡ b → All (λ (c : Cell). c ≡ cell) (map (λ (x : Group). x.cell) (cond b (g ∷ filter (has_method method) gs) (filter (has_method method) gs)))
      → (All (λ (c : Cell). c ≡ cell) (map (λ (x : Group). x.cell) (filter (has_method method) gs)) → All (λ (x : Group). has_method method x ≡ true → x.cell ≡ cell) gs) → All (λ (x : Group). has_method method x ≡ true → x.cell ≡ cell) (g ∷ gs)
  group_at g gs true is all rest =
      All-cons (λ (x : Group). has_method method x ≡ true → x.cell ≡ cell) g gs (λ _. All-head (λ (c : Cell). c ≡ cell) g.cell (map (λ (x : Group). x.cell) (filter (has_method method) gs)) all)
      (rest (All-tail (λ (c : Cell). c ≡ cell) g.cell (map (λ (x : Group). x.cell) (filter (has_method method) gs)) all))
  group_at g gs false is all rest = All-cons (λ (x : Group). has_method method x ≡ true → x.cell ≡ cell) g gs (λ has. absurd (false≢true (sym is ∙ has))) (rest all)

  groups_all : (gs : List Group) → All (λ (c : Cell). c ≡ cell) (map (λ (x : Group). x.cell) (filter (has_method method) gs)) → All (λ (x : Group). has_method method x ≡ true → x.cell ≡ cell) gs
  groups_all [] all = All-nil (λ (x : Group). has_method method x ≡ true → x.cell ≡ cell)
  groups_all (g ∷ gs) all = group_at g gs (has_method method g) refl all (groups_all gs)

  groups_have : (gs : List Group) → map (λ (x : Group). x.cell) (filter (has_method method) gs) ≡ cell ∷ [] → All (λ (x : Group). has_method method x ≡ true → x.cell ≡ cell) gs
  groups_have gs is =
      groups_all gs (All-same (λ (c : Cell). c ≡ cell) (map (λ (x : Group). x.cell) (filter (has_method method) gs)) (cell ∷ []) is (All-cons (λ (c : Cell). c ≡ cell) cell [] refl (All-nil (λ (c : Cell). c ≡ cell))))

left_out_passes : (caller : Option Caller) (access : Access) → is_left_open access ≡ true → said_to caller access ≡ (Passes, cause.Uncovered)
left_out_passes caller Unconstrained is = absurd (false≢true is)
left_out_passes caller Uncovered is = refl
left_out_passes caller UncoveredDenied is = absurd (false≢true is)
left_out_passes caller Precluded is = absurd (false≢true is)
left_out_passes caller NeedsTls is = absurd (false≢true is)
left_out_passes caller Everyone is = absurd (false≢true is)
left_out_passes caller AnyLogin is = absurd (false≢true is)
left_out_passes caller (Roles names) is = absurd (false≢true is)

-- ---- The findings of a row.
module _ (constraints : List Constraint) (rules : Rules) (pattern : List ℕ) where
  abbrev groups : List Group
  groups = (row_at constraints rules pattern).groups

  abbrev method_cell : List ℕ → Cell
  method_cell method = cell_at rules (Some pattern) (covering constraints (Some pattern) method)

  pub in_row : (method : List ℕ) → All (λ (x : Group). has_method method x ≡ true → x.cell ≡ method_cell method) groups
  in_row method = groups_have method (method_cell method) groups (row_cell fitting_caller constraints rules pattern method)

  -- The cell says what the verdict is.
  pub says : (method path : List ℕ) (caller : Option Caller) (cell : Cell) → best_pattern (all_patterns constraints) path ≡ Some pattern → cell ≡ method_cell method → said_to caller cell.access ≡ kind_and_cause (verdict constraints rules method path caller)
  unfolding cell_for
  says method path caller cell best is =
      ap (λ (c : Cell). said_to caller c.access) is ∙ said rules caller (Some pattern) (covering constraints (Some pattern) method)
      ∙ sym (ap (λ b. kind_and_cause (verdict_at rules caller b (covering constraints b method))) best)

-- ---- The findings of a row are right.
module _ (constraints : List Constraint) (rules : Rules) (surroundings : Surroundings) (pattern : List ℕ) where
  abbrev its_groups : List Group
  its_groups = (row_at constraints rules pattern).groups

  -- Everyone passes with an opened method, and some constraint restricts it.
  opened_method : (method : List ℕ) (number other : ℕ) → AreOpenFor constraints pattern method number other → IsRestricted constraints pattern method × IsOpen constraints rules pattern method
  opened_method method number other it =
      ((it.0.second, it.0.second_listed, it.0.restricts, it.0.second_covers), λ path caller best. ap (λ b. kind_and_cause (verdict_at rules caller b (covering constraints b method))) best ∙ it.1 rules caller)

  each_opened : (method : List ℕ) → covers_method (opened_methods constraints pattern) method ≡ true → IsRestricted constraints pattern method × IsOpen constraints rules pattern method
  each_opened method held_in =
      let it : (number : ℕ) × (other : ℕ) × AreOpenFor constraints pattern method number other = some_open constraints pattern (opened_for constraints pattern (Some method)) method refl (sym (opened_exact constraints pattern method) ∙ held_in) in
      opened_method method it.0 it.1 it.2

  opened_from : (found : Option (ℕ × ℕ)) → opened_pair constraints pattern ≡ found → All (IsRight constraints rules surroundings) (map (λ (pair : ℕ × ℕ). finding.Opened pattern (opened_methods constraints pattern) pair.0 pair.1) (option_to_list found))
  opened_from None is = All-nil (IsRight constraints rules surroundings)
  opened_from (Some pair) is =
      let it : AreOpen constraints pattern pair.0 pair.1 = are_open constraints pattern pair is in
      All-cons (IsRight constraints rules surroundings) (finding.Opened pattern (opened_methods constraints pattern) pair.0 pair.1) []
      (each_opened, (it.0, opened_exact constraints pattern it.0 ∙ it.1, it.2.0))
      (All-nil (IsRight constraints rules surroundings))

  uncovered_from : (denied : Bool) → All (IsRight constraints rules surroundings) (cond denied [] (map (λ (group : Group). finding.Uncovered pattern group.methods) (filter is_left_out its_groups)))
  uncovered_from true = All-nil (IsRight constraints rules surroundings)
  uncovered_from false =
      All-map (IsRight constraints rules surroundings) (λ (group : Group). finding.Uncovered pattern group.methods) (filter is_left_out its_groups)
      (kept_all (λ (group : Group). IsRight constraints rules surroundings (finding.Uncovered pattern group.methods)) is_left_out its_groups
      (λ k d within left method path caller best has.
      sym (says constraints rules pattern method path caller (slice_index_or its_groups k d).cell best (in_row constraints rules pattern method k d within has))
      ∙ left_out_passes caller (slice_index_or its_groups k d).cell.access left))

  abbrev pub met_with : Access → Access
  met_with access = effective surroundings.has_login access

  -- The cell decides the fate of a visitor.
  pub fate_at : (method path : List ℕ) (visitor : Option Caller) (cell : Cell) → best_pattern (all_patterns constraints) path ≡ Some pattern → cell ≡ method_cell constraints rules pattern method
      → fate_of (configuration_of constraints rules surroundings) method path visitor ≡ decided_by (met_with cell.access) visitor
  fate_at method path visitor cell best is =
      fate_by (configuration_of constraints rules surroundings) method path visitor cell.access (sym (says constraints rules pattern method path (known surroundings.has_login visitor) cell best is))

  apart_here : (get head : Cell) → get ≡ method_cell constraints rules pattern (codes "GET") → head ≡ method_cell constraints rules pattern (codes "HEAD") → not (same_callers (met_with get.access) (met_with head.access)) ≡ true
      → IsRight constraints rules surroundings (finding.HeadDiffers pattern get.access head.access)
  apart_here get head is was differ =
      let it : (visitor : Option Caller) × (decided_by (met_with get.access) visitor ≡ decided_by (met_with head.access) visitor → ⊥) = apart (met_with get.access) (met_with head.access) differ in (
        λ path caller best. says constraints rules pattern (codes "GET") path caller get best is,
        λ path caller best. says constraints rules pattern (codes "HEAD") path caller head best was,
        it.0,
        λ path best same. it.1 (sym (fate_at (codes "GET") path it.0 get best is) ∙ same ∙ fate_at (codes "HEAD") path it.0 head best was),
      )

  straying_right : (get : Group) → get.cell ≡ method_cell constraints rules pattern (codes "GET") → All (IsRight constraints rules surroundings) (straying surroundings.has_login pattern its_groups get.cell.access)
  straying_right get is =
      All-map (IsRight constraints rules surroundings) (λ (head : Group). finding.HeadDiffers pattern get.cell.access head.cell.access) (filter (strays surroundings.has_login get.cell.access) its_groups)
      (kept_all (λ (head : Group). IsRight constraints rules surroundings (finding.HeadDiffers pattern get.cell.access head.cell.access)) (strays surroundings.has_login get.cell.access) its_groups
      (λ k d within strays_here.
      let head : Group = slice_index_or its_groups k d in
      let differs : Bool = not (same_callers (met_with get.cell.access) (met_with head.cell.access)) in
      apart_here get.cell head.cell is (in_row constraints rules pattern (codes "HEAD") k d within (and_left (has_method (codes "HEAD") head) differs strays_here)) (and_right (has_method (codes "HEAD") head) differs strays_here)))

  head_right : All (IsRight constraints rules surroundings) (head_on surroundings.has_login pattern its_groups)
  head_right =
      joined (IsRight constraints rules surroundings) (λ (get : Group). straying surroundings.has_login pattern its_groups get.cell.access) (filter (has_method (codes "GET")) its_groups)
      (kept_all (λ (get : Group). All (IsRight constraints rules surroundings) (straying surroundings.has_login pattern its_groups get.cell.access)) (has_method (codes "GET")) its_groups
      (λ k d within has. straying_right (slice_index_or its_groups k d) (in_row constraints rules pattern (codes "GET") k d within has)))

-- ---- A pattern that decides nothing is the best match of no path of a request.
slash_below : outranks (codes "/*") (codes "/") ≡ true
unfolding form
slash_below = refl

star_below : (rest : List ℕ) → outranks (codes "/*") (42 ∷ 46 ∷ rest) ≡ true
unfolding form
star_below rest = refl

below_at : (pattern : List ℕ) (same : Bool) → bytes_eq pattern (codes "/") ≡ same → (same || is_extension_pattern pattern) ≡ true → outranks (codes "/*") pattern ≡ true
below_at pattern true is beaten = ap (outranks (codes "/*")) ((bytes_eq-Decides pattern (codes "/")).0 is) ∙ slash_below
below_at pattern false is beaten =
    let starred : pattern ≡ codes "*." ++ drop 2 pattern = (starts_is Decides-eqb pattern (codes "*.") _ refl).0 (and_left _ _ beaten) in
    ap (outranks (codes "/*")) starred ∙ star_below (drop 2 pattern)

module _ (shapes : CanonicalHasShape) (constraints : List Constraint) where
  abbrev patterns : List (List ℕ)
  patterns = all_patterns constraints

  -- A pattern that is chosen before another one takes its paths.
  never_below : (path pattern taking : List ℕ) → lists patterns taking ≡ true → matches taking path ≡ true → outranks taking pattern ≡ true → best_pattern patterns path ≡ Some pattern → ⊥
  never_below path pattern taking there matched above best =
      let none : list_any (λ other. matches other path && outranks other pattern) patterns ≡ false =
      not-true (list_any (λ other. matches other path && outranks other pattern) patterns) (and_right (matches pattern path) (not (list_any (λ other. matches other path && outranks other pattern) patterns)) (found_in (is_best patterns path) patterns pattern best).0) in
      false≢true (sym (any_of (λ other. matches other path && outranks other pattern) patterns taking none (both (matches taking path) (outranks taking pattern) matched above)) ∙ there)

  best_matches : (path pattern : List ℕ) → best_pattern patterns path ≡ Some pattern → matches pattern path ≡ true
  best_matches path pattern best = and_left (matches pattern path) (not (list_any (λ other. matches other path && outranks other pattern) patterns)) (found_in (is_best patterns path) patterns pattern best).0

  folder_never : (path pattern : List ℕ) (its_form : Form) → form pattern ≡ its_form → IsShaped path → is_beaten_folder patterns its_form ≡ true → best_pattern patterns path ≡ Some pattern → ⊥
  folder_never path pattern Root is shaped beaten best = false≢true beaten
  folder_never path pattern Default is shaped beaten best = false≢true beaten
  folder_never path pattern (Extension wanted) is shaped beaten best = false≢true beaten
  folder_never path pattern (Prefix prefix) is shaped beaten best =
      let ended : Bool = ends_with nat_eq prefix (codes "/") in
      let it : (matches (exact_pattern prefix) path ≡ true) × (outranks (exact_pattern prefix) pattern ≡ true) =
      taken pattern path prefix shaped is (and_left ended (lists patterns (exact_pattern prefix)) beaten) (best_matches path pattern best) in
      never_below path pattern (exact_pattern prefix) (and_right ended (lists patterns (exact_pattern prefix)) beaten) it.0 it.1 best
  folder_never path pattern (Exact text) is shaped beaten best = false≢true beaten

  never_best : (pattern : List ℕ) → decides_nothing patterns pattern ≡ true → IsNeverBest constraints pattern
  never_best pattern nothing path served best =
      let shaped : IsShaped path = served_shaped shapes path served in
      let late : Bool = bytes_eq pattern (codes "/") || is_extension_pattern pattern in
      let everywhere : Bool = lists patterns (codes "/*") in
      elim (or_cases (is_beaten patterns pattern) (matches_nothing pattern) nothing) [
        | inl beaten ↦
            elim (or_cases (everywhere && late) (is_beaten_folder patterns (form pattern)) beaten) [
              | inl tried ↦
                  never_below path pattern (codes "/*") (and_left everywhere late tried) (root_matches path shaped.rooted) (below_at pattern (bytes_eq pattern (codes "/")) refl (and_right everywhere late tried)) best
              | inr folder ↦ folder_never path pattern (form pattern) refl shaped folder best
            ]
        | inr unmatched ↦ false≢true (sym (nothing_matches pattern path shaped (best_matches path pattern best)) ∙ unmatched)
      ]

  -- A pattern among those that pass a test passes it.
  passes_in : (test : List ℕ → Bool) (texts : List (List ℕ)) (text : List ℕ) → list_all test texts ≡ true → lists texts text ≡ true → test text ≡ true
  passes_in test texts text all there =
      found (test text ≡ true) (λ listed. bytes_eq listed text) texts there
      (λ k d within same. ap test (sym ((bytes_eq-Decides (slice_index_or texts k d) text).0 same)) ∙ AllPass-from_list_all test texts all k d within)

  covers_nothing_at : (c : Constraint) (method path pattern : List ℕ) (b : Bool) → covers c pattern method ≡ b → is_dead patterns c ≡ true → IsServed path → best_pattern patterns path ≡ Some pattern → b ≡ false
  covers_nothing_at c method path pattern true is dead served best =
      absurd (never_best pattern (passes_in (decides_nothing patterns) (patterns_in c) pattern dead (listed_by pattern c ∙ covers_listed pattern method c is)) path served best)
  covers_nothing_at c method path pattern false is dead served best = refl

  module _ (rules : Rules) (surroundings : Surroundings) where
    abbrev Right : Finding → Type 0
    Right = IsRight constraints rules surroundings

    dead_right : All Right (dead_among patterns constraints)
    dead_right =
        All-map Right (λ (c : Constraint). finding.Dead c.number) (filter (is_dead patterns) constraints)
        (kept_all (λ (c : Constraint). Right (finding.Dead c.number)) (is_dead patterns) constraints
        (λ k d within dead. (
          slice_index_or constraints k d,
          All-contains_itself constraints k d within,
          refl,
          λ method path pattern served best. covers_nothing_at (slice_index_or constraints k d) method path pattern (covers (slice_index_or constraints k d) pattern method) refl dead served best,
        )))

    patterns_right : (c : Constraint) → Contains constraints c → (dead : Bool) → All Right (cond dead [] (map (finding.DeadPattern c.number) (different (filter (decides_nothing patterns) (patterns_in c)))))
    patterns_right c there true = All-nil Right
    patterns_right c there false =
        All-map Right (finding.DeadPattern c.number) (different (filter (decides_nothing patterns) (patterns_in c)))
        (once_all (λ pattern. Right (finding.DeadPattern c.number pattern)) (decides_nothing patterns) (patterns_in c)
        (λ pattern listed nothing. (c, there, refl, listed, never_best pattern nothing)))

    dead_patterns_right : All Right (dead_patterns patterns constraints)
    dead_patterns_right =
        joined Right (dead_patterns_in patterns) constraints
        (λ k d within. patterns_right (slice_index_or constraints k d) (All-contains_itself constraints k d within) (is_dead patterns (slice_index_or constraints k d)))

    overruled_at : (c : Constraint) → is_overruled rules constraints patterns c ≡ true → (path pattern : List ℕ) (nothing : Bool) → decides_nothing patterns pattern ≡ nothing → IsServed path
        → best_pattern patterns path ≡ Some pattern → lists (patterns_in c) pattern ≡ true → ChangesNothing constraints rules c pattern
    overruled_at c over path pattern true is served best listed = absurd (never_best pattern is path served best)
    overruled_at c over path pattern false is served best listed = changes_nothing constraints rules c pattern (not_at constraints rules patterns c over pattern listed is)

    overruled_one : (c : Constraint) → Contains constraints c → is_overruled rules constraints patterns c ≡ true → IsOverruled constraints rules c.number
    overruled_one c there is = (c, there, refl, λ path pattern served best listed. overruled_at c is path pattern (decides_nothing patterns pattern) refl served best listed)

    escaped_at : (c : Constraint) → Contains constraints c → All Right (escaped_in c)
    escaped_at c there =
        All-map Right (finding.Escaped c.number) (different (filter is_escaped (patterns_in c)))
        (once_all (λ pattern. Right (finding.Escaped c.number pattern)) is_escaped (patterns_in c) (λ pattern listed has. (c, there, refl, listed, has)))

    escaped_right : All Right (escaped constraints)
    escaped_right = joined Right escaped_in constraints (λ k d within. escaped_at (slice_index_or constraints k d) (All-contains_itself constraints k d within))

-- ---- The compared constraints.
module _ (shapes : CanonicalHasShape) (constraints : List Constraint) (rules : Rules) (surroundings : Surroundings) where
  abbrev full : List Constraint
  full = compared surroundings constraints

  overruled_from : (c : Constraint) → Contains full c → (over : Bool) → is_overruled rules full (all_patterns full) c ≡ over → All (IsRight constraints rules surroundings) (cond over (finding.Overruled c.number ∷ []) [])
  overruled_from c there true is =
      All-cons (IsRight constraints rules surroundings) (finding.Overruled c.number) [] (overruled_one shapes full rules surroundings c there is) (All-nil (IsRight constraints rules surroundings))
  overruled_from c there false is = All-nil (IsRight constraints rules surroundings)

  overruled_right : All (IsRight constraints rules surroundings) (overruled rules full)
  overruled_right =
      joined (IsRight constraints rules surroundings) (overruled_in rules full (all_patterns full)) full
      (λ k d within. overruled_from (slice_index_or full k d) (All-contains_itself full k d within) (is_overruled rules full (all_patterns full) (slice_index_or full k d)) refl)

-- ---- Roles.
module _ (constraints : List Constraint) (rules : Rules) (surroundings : Surroundings) where
  unknown_at : (c : Constraint) → Contains constraints c → (its_auth : Auth) → c.auth ≡ its_auth → All (IsRight constraints rules surroundings) (unknown_roles rules.declared c.number its_auth)
  unknown_at c there auth.Absent is = All-nil (IsRight constraints rules surroundings)
  unknown_at c there (auth.Roles names) is =
      All-map (IsRight constraints rules surroundings) (finding.UnknownRole c.number) (different (filter (is_unknown rules.declared) names))
      (once_all (λ name. IsRight constraints rules surroundings (finding.UnknownRole c.number name)) (is_unknown rules.declared) names
      (λ name listed unknown. (
        c,
        there,
        refl,
        ap (λ (an_auth : Auth). lists (names_in an_auth) name) is ∙ listed,
        not-true (lists rules.declared name) (and_right (is_role name) (not (lists rules.declared name)) unknown),
      )))

  unknown_right : All (IsRight constraints rules surroundings) (unknown_among rules.declared constraints)
  unknown_right =
      joined (IsRight constraints rules surroundings) (λ (c : Constraint). unknown_roles rules.declared c.number c.auth) constraints
      (λ k d within. unknown_at (slice_index_or constraints k d) (All-contains_itself constraints k d within) (slice_index_or constraints k d).auth refl)

  abbrev meant_by : Constraint → List (List ℕ)
  meant_by c = roles_meant rules.declared c.auth

  abbrev named : List (List ℕ)
  named = named_roles rules.declared constraints

  named_any : (role : List ℕ) → lists named role ≡ list_any (λ (c : Constraint). lists (meant_by c) role) constraints
  named_any role = rising_lists (flat_map meant_by constraints) role ∙ any_of_joined (λ listed. bytes_eq listed role) meant_by constraints

  meant : (role : List ℕ) → lists named role ≡ true → IsMeant constraints rules role
  meant role there =
      found (IsMeant constraints rules role) (λ (c : Constraint). lists (meant_by c) role) constraints (sym (named_any role) ∙ there)
      (λ k d within has. (slice_index_or constraints k d, All-contains_itself constraints k d within, has))

  unheld_from : (users : Option (List (List ℕ))) → surroundings.held ≡ users → All (IsRight constraints rules surroundings) (unheld_roles rules.declared users constraints)
  unheld_from None is = All-nil (IsRight constraints rules surroundings)
  unheld_from (Some users) is =
      All-map (IsRight constraints rules surroundings) finding.UnheldRole (filter (is_unheld rules.declared users) named)
      (kept_all (λ role. IsRight constraints rules surroundings (finding.UnheldRole role)) (is_unheld rules.declared users) named
      (λ k d within unheld.
      let role : List ℕ = slice_index_or named k d in
      let parts : ((is_role role && (length rules.declared == 0 || lists rules.declared role)) ≡ true) × (not (lists users role) ≡ true) = and_parts (is_role role && (length rules.declared == 0 || lists rules.declared role)) (not (lists users role)) unheld in (
        users,
        is,
        meant role (in_texts named role (All-contains_itself named k d within)),
        and_right (is_role role) (length rules.declared == 0 || lists rules.declared role) parts.0,
        not-true (lists users role) parts.1,
      )))

  not_meant : (role : List ℕ) → lists named role ≡ false → (c : Constraint) → Contains constraints c → lists (meant_by c) role ≡ false
  not_meant role none c there = All-contains (λ (x : Constraint). lists (meant_by x) role ≡ false) constraints c (all_fail (λ (x : Constraint). lists (meant_by x) role) constraints (sym (named_any role) ∙ none)) there

  abbrev unused_texts : List (List ℕ)
  unused_texts = filter (is_unused named) rules.declared

  unused_at : (role : List ℕ) → lists (different unused_texts) role ≡ true → IsRight constraints rules surroundings (finding.UnusedRole role)
  unused_at role there =
      let parts : (lists rules.declared role ≡ true) × (is_unused named role ≡ true) = and_parts (lists rules.declared role) (is_unused named role) (sym (passing_lists (is_unused named) rules.declared role) ∙ sym (different_lists unused_texts role) ∙ there) in
      (parts.0, not_meant role (not-true (lists named role) (and_right (is_role role) (not (lists named role)) parts.1)))

  unused_right : All (IsRight constraints rules surroundings) (unused_roles rules.declared constraints)
  unused_right =
      All-map (IsRight constraints rules surroundings) finding.UnusedRole (different unused_texts)
      (λ k d within. unused_at (slice_index_or (different unused_texts) k d) (in_texts (different unused_texts) (slice_index_or (different unused_texts) k d) (All-contains_itself (different unused_texts) k d within)))

  -- ---- The rows of the table that are reached.
  -- Each row of a pattern has its groups.
  abbrev IsMade : Row → Type 0
  IsMade row = (pattern : List ℕ) → row.pattern ≡ Some pattern → row.groups ≡ (row_at constraints rules pattern).groups

  made_last : (closed : Bool) → All IsMade (cond closed [] (other_paths ∷ []))
  made_last true = All-nil IsMade
  made_last false = All-cons IsMade other_paths [] (λ pattern is. cc) (All-nil IsMade)

  made_at : (text pattern : List ℕ) → Some text ≡ Some pattern → (row_at constraints rules text).groups ≡ (row_at constraints rules pattern).groups
  made_at text pattern is = let same : text ≡ pattern = cc in ap (λ t. (row_at constraints rules t).groups) same

  all_made : All IsMade (table_of constraints rules).rows
  all_made =
      All-append IsMade (map (row_at constraints rules) (in_row_order (all_patterns constraints))) (cond (match_every_path (all_patterns constraints)) [] (other_paths ∷ []))
      (All-map IsMade (row_at constraints rules) (in_row_order (all_patterns constraints)) (λ k d within pattern is. made_at (slice_index_or (in_row_order (all_patterns constraints)) k d) pattern is))
      (made_last (match_every_path (all_patterns constraints)))

  abbrev pub the_rows : List Row
  the_rows = met_rows constraints surroundings (table_of constraints rules).rows

  kept_made : (test : Row → Bool) (rows : List Row) → All IsMade rows → All IsMade (filter test rows)
  kept_made test rows all = kept_all IsMade test rows (λ k d within passing. all k d within)

  reached_made : All IsMade the_rows
  reached_made = kept_made (is_row_met surroundings.contexts surroundings.path (all_patterns constraints)) (table_of constraints rules).rows all_made

  module _ (at : Option (List ℕ) → List Group → List Finding) (each : (pattern : List ℕ) → All (IsRight constraints rules surroundings) (at (Some pattern) (row_at constraints rules pattern).groups)) (none : (groups : List Group) → All (IsRight constraints rules surroundings) (at None groups)) where
    row_right : (pattern : Option (List ℕ)) (groups : List Group) → ((text : List ℕ) → pattern ≡ Some text → groups ≡ (row_at constraints rules text).groups) → All (IsRight constraints rules surroundings) (at pattern groups)
    row_right None groups made = none groups
    row_right (Some pattern) groups made = All-same (IsRight constraints rules surroundings) (at (Some pattern) groups) (at (Some pattern) (row_at constraints rules pattern).groups) (ap (at (Some pattern)) (made pattern refl)) (each pattern)

    rows_right : All (IsRight constraints rules surroundings) (flat_map (λ (row : Row). at row.pattern row.groups) the_rows)
    rows_right = joined (IsRight constraints rules surroundings) (λ (row : Row). at row.pattern row.groups) the_rows (λ k d within. row_right (slice_index_or the_rows k d).pattern (slice_index_or the_rows k d).groups (reached_made k d within))

-- ---- What is read otherwise.
-- Two sets that share a method.
shared_from : (names : List (List ℕ)) (methods : Methods) → list_any (covers_method methods) names ≡ true → (method : List ℕ) × (lists names method ≡ true) × (covers_method methods method ≡ true)
shared_from names methods some =
    found ((method : List ℕ) × (lists names method ≡ true) × (covers_method methods method ≡ true)) (covers_method methods) names some
    (λ k d within covered. (slice_index_or names k d, in_texts names (slice_index_or names k d) (All-contains_itself names k d within), covered))

abbrev IsShared : Methods → Methods → Type 0
IsShared methods others = (method : List ℕ) × (covers_method methods method ≡ true) × (covers_method others method ≡ true)

unlisted_in : (names others : List (List ℕ)) → (method : List ℕ) × (lists names method ≡ false) × (lists others method ≡ false)
unlisted_in names others =
    let none : (lists names (fresh (names ++ others)) || lists others (fresh (names ++ others))) ≡ false = sym (list_any-append (λ listed. bytes_eq listed (fresh (names ++ others))) names others) ∙ is_fresh (names ++ others) in
    (fresh (names ++ others), (or_parts _ _ none).0, (or_parts _ _ none).1)

shared : (methods others : Methods) → share_method methods others ≡ true → IsShared methods others
shared AllMethods AllMethods some = ([], refl, refl)
shared AllMethods (Only names) some = let it : (method : List ℕ) × (lists names method ≡ true) × (covers_method AllMethods method ≡ true) = shared_from names AllMethods some in (it.0, it.2, it.1)
shared AllMethods (Except names) some = (fresh names, refl, ap not (is_fresh names))
shared (Only names) others some = shared_from names others some
shared (Except names) AllMethods some = (fresh names, ap not (is_fresh names), refl)
shared (Except names) (Only others) some = let it : (method : List ℕ) × (lists others method ≡ true) × (covers_method (Except names) method ≡ true) = shared_from others (Except names) some in (it.0, it.2, it.1)
shared (Except names) (Except others) some = let it : (method : List ℕ) × (lists names method ≡ false) × (lists others method ≡ false) = unlisted_in names others in (it.0, ap not it.1, ap not it.2)

-- The access tells whether a method is covered.
open_uncovered : (none denied precluded transport lets_in any : Bool) (names : List (List ℕ)) → is_left_open (cond none (cond denied UncoveredDenied Uncovered) (cond precluded Precluded (cond transport NeedsTls (cond lets_in Everyone (cond any AnyLogin (Roles names)))))) ≡ true
    → (none ≡ true) × (denied ≡ false)
open_uncovered true true precluded transport lets_in any names is = absurd (false≢true is)
open_uncovered true false precluded transport lets_in any names is = (refl, refl)
open_uncovered false denied true transport lets_in any names is = absurd (false≢true is)
open_uncovered false denied false true lets_in any names is = absurd (false≢true is)
open_uncovered false denied false false true any names is = absurd (false≢true is)
open_uncovered false denied false false false true names is = absurd (false≢true is)
open_uncovered false denied false false false false names is = absurd (false≢true is)

covered_some : (none denied : Bool) (rest : Access) → denied ≡ false → not (is_open (cond none (cond denied UncoveredDenied Uncovered) rest)) ≡ true → none ≡ false
covered_some true true rest open_to_all is = absurd (false≢true (sym open_to_all))
covered_some true false rest open_to_all is = absurd (false≢true is)
covered_some false denied rest open_to_all is = refl

module _ (constraints : List Constraint) (rules : Rules) (pattern : List ℕ) where
  left_uncovered : (method : List ℕ) → is_left_open (method_cell constraints rules pattern method).access ≡ true → (is_uncovered constraints pattern method ≡ true) × (rules.deny_uncovered ≡ false)
  unfolding cell_for
  left_uncovered method is = open_uncovered (length (covering constraints (Some pattern) method) == 0) rules.deny_uncovered _ _ _ _ _ is

  is_not_uncovered : (method : List ℕ) → rules.deny_uncovered ≡ false → not (is_open (method_cell constraints rules pattern method).access) ≡ true → is_uncovered constraints pattern method ≡ false
  unfolding cell_for
  is_not_uncovered method open_to_all is = covered_some (length (covering constraints (Some pattern) method) == 0) rules.deny_uncovered _ open_to_all is

  is_shut : (method : List ℕ) → not (is_open (method_cell constraints rules pattern method).access) ≡ true → IsShut constraints rules pattern method
  unfolding cell_for
  is_shut method is passes =
      let access : Access = (method_cell constraints rules pattern method).access in
      false≢true (sym (not-true (is_open access) is) ∙ opens access (ap (λ (x : Kind × Cause). x.0) (said rules None (Some pattern) (covering constraints (Some pattern) method)) ∙ passes))

-- What holds of all rows holds of them in another order.
pub extensions_all : (P : Row → Type 0) (rows : List Row) → All P rows → All P (extensions_first rows)
extensions_all P rows all =
    All-append P (filter is_extension_row rows) (filter is_other_row rows) (kept_all P is_extension_row rows (λ k d within _. all k d within)) (kept_all P is_other_row rows (λ k d within _. all k d within))

module _ (constraints : List Constraint) (rules : Rules) (surroundings : Surroundings) where
  abbrev pub late : List Row
  late = late_rows (table_of constraints rules).rows

  -- One of the methods is not open to everyone at the pattern.
  abbrev HasRestricted : Methods → List ℕ → Type 0
  HasRestricted methods other = (method : List ℕ) × IsTrue (covers_method methods method) × (not (is_open (method_cell constraints rules other method).access) ≡ true)

  -- The pattern is tried late and restricts one of the methods.
  abbrev Restricts : Methods → List ℕ → Type 0
  Restricts methods other = IsTrue (is_tried_late other) × HasRestricted methods other

  part_restricts : (other : List ℕ) (methods : Methods) (shown : List Group) → shown ≡ (row_at constraints rules other).groups → list_any (restricts_part methods) shown ≡ true → HasRestricted methods other
  part_restricts other methods shown made some =
      let its : List Group = (row_at constraints rules other).groups in
      found (HasRestricted methods other) (restricts_part methods) its (ap (list_any (restricts_part methods)) (sym made) ∙ some)
      (λ k d within part.
      let shut : Bool = not (is_open (slice_index_or its k d).cell.access) in
      let it : IsShared methods (slice_index_or its k d).methods = shared methods (slice_index_or its k d).methods (and_right shut _ part) in (
        it.0,
        it.1,
        ap (λ (c : Cell). not (is_open c.access)) (sym (in_row constraints rules other it.0 k d within it.2)) ∙ and_left shut _ part,
      ))

  row_restricts : (row : Row) (pattern : Option (List ℕ)) (other : List ℕ) (methods : Methods) → row.pattern ≡ pattern → pattern ≡ Some other → IsMade constraints rules surroundings row → is_late row ≡ true → restricts_one methods row ≡ true → Restricts methods other
  row_restricts row pattern other methods is at made tried it =
      (and_left (is_tried_late other) (not (matches_nothing other)) (sym (ap (λ p. option_map_or is_late_match p false) (is ∙ at)) ∙ tried), part_restricts other methods row.groups (made other (is ∙ at)) it)

  found_at : (test : Row → Bool) (P : Row → Type 0) (x row : Row) (rows : List Row) (b : Bool) → test x ≡ b → P x → cond b (Some x) (find test rows) ≡ Some row → (find test rows ≡ Some row → P row × (test row ≡ true)) → P row × (test row ≡ true)
  found_at test P x row rows true passes holds is rest = let same : row ≡ x = cc in rw same (holds, passes)
  found_at test P x row rows false fails holds is rest = rest is

  found_row : (test : Row → Bool) (P : Row → Type 0) (rows : List Row) (row : Row) → All P rows → find test rows ≡ Some row → P row × (test row ≡ true)
  found_row test P [] row all is = cc
  found_row test P (x ∷ rows) row all is = found_at test P x row rows (test x) refl (All-head P x rows all) is (found_row test P rows row (All-tail P x rows all))

  first_restricts : (rows : List Row) (methods : Methods) (found_one : Option Row) (other : List ℕ) → All (λ (row : Row). IsMade constraints rules surroundings row × (is_late row ≡ true)) rows → find (restricts_one methods) rows ≡ found_one
      → option_and_then (λ (row : Row). row.pattern) found_one ≡ Some other → Restricts methods other
  first_restricts rows methods None other all is at = cc
  first_restricts rows methods (Some row) other all is at =
      let it : (IsMade constraints rules surroundings row × (is_late row ≡ true)) × (restricts_one methods row ≡ true) = found_row (restricts_one methods) (λ (one : Row). IsMade constraints rules surroundings one × (is_late one ≡ true)) rows row all is in
      row_restricts row row.pattern other methods refl at it.0.0 it.0.1 it.1

  late_made : All (λ (row : Row). IsMade constraints rules surroundings row × (is_late row ≡ true)) late
  late_made =
      extensions_all (λ (row : Row). IsMade constraints rules surroundings row × (is_late row ≡ true)) (filter is_late (table_of constraints rules).rows)
      (kept_all (λ (row : Row). IsMade constraints rules surroundings row × (is_late row ≡ true)) is_late (table_of constraints rules).rows
      (λ k d within tried. (all_made constraints rules surroundings k d within, tried)))

  module _ (pattern : List ℕ) (prefixed : is_prefix (form pattern) ≡ true) where
    abbrev its : List Group
    its = (row_at constraints rules pattern).groups

    each_uncovered : (k : ℕ) (d : Group) → k < length its → is_left_out (slice_index_or its k d) ≡ true → (method : List ℕ) → covers_method (slice_index_or its k d).methods method ≡ true → (is_uncovered constraints pattern method ≡ true) × (rules.deny_uncovered ≡ false)
    each_uncovered k d within left method has = left_uncovered constraints rules pattern method (ap (λ (c : Cell). is_left_open c.access) (sym (in_row constraints rules pattern method k d within has)) ∙ left)

    reading_at : (methods : Methods) → ((method : List ℕ) → covers_method methods method ≡ true → (is_uncovered constraints pattern method ≡ true) × (rules.deny_uncovered ≡ false)) → (other : Option (List ℕ)) → first_restricting late methods ≡ other
        → All (IsRight constraints rules surroundings) (map (finding.ReadOtherwise pattern methods) (option_to_list other))
    reading_at methods bare None is = All-nil (IsRight constraints rules surroundings)
    reading_at methods bare (Some other) is =
        let it : Restricts methods other = first_restricts late methods (find (restricts_one methods) late) other late_made refl is in
        let open_to_all : rules.deny_uncovered ≡ false = (bare it.1.0 it.1.1).1 in
        All-cons (IsRight constraints rules surroundings) (finding.ReadOtherwise pattern methods other) [] (
          prefixed,
          it.0,
          open_to_all,
          λ method has. (bare method has).0,
          (it.1.0, it.1.1, is_not_uncovered constraints rules other it.1.0 open_to_all it.1.2, is_shut constraints rules other it.1.0 it.1.2),
        )
        (All-nil (IsRight constraints rules surroundings))

    readings_right : All (IsRight constraints rules surroundings) (flat_map (λ (group : Group). read_as late pattern group.methods) (filter is_left_out its))
    readings_right =
        joined (IsRight constraints rules surroundings) (λ (group : Group). read_as late pattern group.methods) (filter is_left_out its)
        (kept_all (λ (group : Group). All (IsRight constraints rules surroundings) (read_as late pattern group.methods)) is_left_out its
        (λ k d within left. reading_at (slice_index_or its k d).methods (each_uncovered k d within left) (first_restricting late (slice_index_or its k d).methods) refl))

  reading_from : (pattern : List ℕ) (prefixed : Bool) → is_prefix (form pattern) ≡ prefixed
      → All (IsRight constraints rules surroundings) (cond prefixed (flat_map (λ (group : Group). read_as late pattern group.methods) (filter is_left_out (row_at constraints rules pattern).groups)) [])
  reading_from pattern true is = readings_right pattern is
  reading_from pattern false is = All-nil (IsRight constraints rules surroundings)

  -- ---- Unreached patterns.
  unreached_at : (c : Constraint) → Contains constraints c → All (IsRight constraints rules surroundings) (unreached_in surroundings.contexts surroundings.path c)
  unreached_at c there =
      All-map (IsRight constraints rules surroundings) (finding.Unreached c.number) (different (filter (is_unreached surroundings.contexts surroundings.path) (patterns_in c)))
      (once_all (λ pattern. IsRight constraints rules surroundings (finding.Unreached c.number pattern)) (is_unreached surroundings.contexts surroundings.path) (patterns_in c)
      (λ pattern listed none. (c, there, refl, listed, not-true (is_reached surroundings.contexts surroundings.path pattern) none)))

  unreached_right : All (IsRight constraints rules surroundings) (unreached surroundings.contexts surroundings.path constraints)
  unreached_right = joined (IsRight constraints rules surroundings) (unreached_in surroundings.contexts surroundings.path) constraints (λ k d within. unreached_at (slice_index_or constraints k d) (All-contains_itself constraints k d within))

-- ---- What the login page needs.
barred_kind : (decision : OwnedDecision) → bars decision ≡ true → (kind_and_cause decision).0 ≡ Passes → ⊥
barred_kind (Open why) is passes = false≢true is
barred_kind (Login why) is passes = let apart : NeedsLogin ≡ Passes = passes in cc
barred_kind (Denied why) is passes = let apart : IsDenied ≡ Passes = passes in cc

login_said : (access : Access) → needs_login access ≡ true → (said_to None access).0 ≡ NeedsLogin
login_said Unconstrained is = absurd (false≢true is)
login_said Uncovered is = absurd (false≢true is)
login_said UncoveredDenied is = absurd (false≢true is)
login_said Precluded is = absurd (false≢true is)
login_said NeedsTls is = absurd (false≢true is)
login_said Everyone is = absurd (false≢true is)
login_said AnyLogin is = refl
login_said (Roles names) is = refl

only_text : (own text : List ℕ) → lists (own ∷ []) text ≡ true → own ≡ text
only_text own text there = elim (or_cases (bytes_eq own text) false there) [ inl same ↦ (bytes_eq-Decides own text).0 same | inr none ↦ absurd (false≢true none) ]

in_option : (found : Option (List ℕ)) (text : List ℕ) → lists (option_to_list found) text ≡ true → found ≡ Some text
in_option None text there = absurd (false≢true there)
in_option (Some own) text there = ap Some (only_text own text there)

-- The first path that a function gives is that of one of the folders.
module _ (given : List ℕ → Option (List ℕ)) (path : List ℕ) where
  abbrev IsGiven : List (List ℕ) → Type 0
  IsGiven folders = (folder : List ℕ) × (lists folders folder ≡ true) × (given folder ≡ Some path)

  given_at : (folder : List ℕ) (folders : List (List ℕ)) (first : Option (List ℕ)) → given folder ≡ first → option_or first (first_given given folders) ≡ Some path
      → (first_given given folders ≡ Some path → IsGiven folders) → IsGiven (folder ∷ folders)
  given_at folder folders (Some own) is gives later = (folder, ap (λ b. b || lists folders folder) ((bytes_eq-Decides folder folder).1 refl), is ∙ gives)
  given_at folder folders None is gives later = let it : IsGiven folders = later gives in (it.0, or_right (bytes_eq folder it.0) (lists folders it.0) it.1, it.2)

  pub given_by : (folders : List (List ℕ)) → first_given given folders ≡ Some path → IsGiven folders
  given_by [] gives = let no : ⊥ = cc in absurd no
  given_by (folder ∷ folders) gives = given_at folder folders (given folder) refl gives (λ later. given_by folders later)

base_in : (hidden : Bool) (own : List ℕ) (asked : List (List ℕ)) (folder : List ℕ) → lists (cond hidden [] (own ∷ []) ++ asked) folder ≡ true → ((hidden ≡ false) × (folder ≡ own)) ⊎ (lists asked folder ≡ true)
base_in true own asked folder there = inr there
base_in false own asked folder there = elim (or_cases (bytes_eq own folder) (lists asked folder) there) [ inl same ↦ inl (refl, sym ((bytes_eq-Decides own folder).0 same)) | inr later ↦ inr later ]

taken_in : (most : ℕ) (texts : List (List ℕ)) (text : List ℕ) → lists (take most texts) text ≡ true → lists texts text ≡ true
taken_in most texts text there =
    ap (λ all. lists all text) (sym (take-append-drop most texts)) ∙ list_any-append (λ listed. bytes_eq listed text) (take most texts) (drop most texts)
    ∙ ap (λ b. b || lists (drop most texts) text) there

abbrev pub asks_in : List ℕ → Row → Bool
asks_in folder row = lists (asked_at row.pattern row.groups) folder

asked_in : (has_login : Bool) (rows : List Row) (folder : List ℕ) → lists (asked_folders has_login rows) folder ≡ true → (has_login ≡ true) × (list_any (asks_in folder) rows ≡ true)
asked_in false rows folder there = absurd (false≢true there)
asked_in true rows folder there =
    let all : List (List ℕ) = flat_map (λ (row : Row). asked_at row.pattern row.groups) rows in (
      refl,
      sym (any_of_joined (λ listed. bytes_eq listed folder) (λ (row : Row). asked_at row.pattern row.groups) rows) ∙ sym (different_lists all folder) ∙ taken_in MAX_ASKED_FOLDERS (different all) folder there,
    )

module _ (constraints : List Constraint) (rules : Rules) (surroundings : Surroundings) where
  -- ---- The folders in which a GET without a caller leads to a login.
  abbrev IsAsked : List ℕ → Type 0
  IsAsked folder = (pattern : List ℕ) × LeadsToLogin constraints rules surroundings pattern × (folder ≡ folder_of_form (form pattern))

  abbrev pub asked_groups : List ℕ → List Group
  asked_groups pattern = (row_at constraints rules pattern).groups

  login_needed : (pattern : List ℕ) → list_any is_asked (asked_groups pattern) ≡ true → (path : List ℕ) → best_pattern (all_patterns constraints) path ≡ Some pattern → (kind_and_cause (verdict constraints rules (codes "GET") path None)).0 ≡ NeedsLogin
  login_needed pattern some path best =
      found ((kind_and_cause (verdict constraints rules (codes "GET") path None)).0 ≡ NeedsLogin) is_asked (asked_groups pattern) some
      (λ k d within its.
      let group : Group = slice_index_or (asked_groups pattern) k d in
      sym (ap (λ (x : Kind × Cause). x.0) (says constraints rules pattern (codes "GET") path None group.cell best (in_row constraints rules pattern (codes "GET") k d within (and_left (has_method (codes "GET") group) (needs_login group.cell.access) its))))
      ∙ login_said group.cell.access (and_right (has_method (codes "GET") group) (needs_login group.cell.access) its))

  asked_from : (folder pattern : List ℕ) (asked : Bool) → list_any is_asked (asked_groups pattern) ≡ asked → surroundings.has_login ≡ true → lists (all_patterns constraints) pattern ≡ true → IsMet constraints surroundings pattern
      → lists (cond asked (folder_of_form (form pattern) ∷ []) []) folder ≡ true → IsAsked folder
  asked_from folder pattern true is login listed reached there =
      (pattern, record { has_login = login; is_listed = listed; is_met = reached; needs_login = login_needed pattern is }, sym (only_text (folder_of_form (form pattern)) folder there))
  asked_from folder pattern false is login listed reached there = absurd (false≢true there)

  row_asked : (folder : List ℕ) (pattern : Option (List ℕ)) (row_groups : List Group) → surroundings.has_login ≡ true → ((text : List ℕ) → pattern ≡ Some text → row_groups ≡ asked_groups text) → ((text : List ℕ) → pattern ≡ Some text → lists (all_patterns constraints) text ≡ true)
      → is_pattern_met surroundings.contexts surroundings.path (all_patterns constraints) pattern ≡ true → lists (asked_at pattern row_groups) folder ≡ true → IsAsked folder
  row_asked folder None row_groups login made listed reached there = absurd (false≢true there)
  row_asked folder (Some pattern) row_groups login made listed reached there =
      asked_from folder pattern (list_any is_asked (asked_groups pattern)) refl login (listed pattern refl) reached (sym (ap (λ groups_there. lists (asked_at (Some pattern) groups_there) folder) (made pattern refl)) ∙ there)

  -- Each row of a pattern is that of a listed one.
  abbrev HasListed : Row → Type 0
  HasListed row = (pattern : List ℕ) → row.pattern ≡ Some pattern → lists (all_patterns constraints) pattern ≡ true

  listed_last : (closed : Bool) → All HasListed (cond closed [] (other_paths ∷ []))
  listed_last true = All-nil HasListed
  listed_last false = All-cons HasListed other_paths [] (λ pattern is. cc) (All-nil HasListed)

  listed_at : (text pattern : List ℕ) → lists (all_patterns constraints) text ≡ true → Some text ≡ Some pattern → lists (all_patterns constraints) pattern ≡ true
  listed_at text pattern there is = let same : text ≡ pattern = cc in ap (lists (all_patterns constraints)) (sym same) ∙ there

  all_listed : All HasListed (table_of constraints rules).rows
  all_listed =
      let ordered : List (List ℕ) = in_row_order (all_patterns constraints) in
      All-append HasListed (map (row_at constraints rules) ordered) (cond (match_every_path (all_patterns constraints)) [] (other_paths ∷ []))
      (All-map HasListed (row_at constraints rules) ordered
      (λ k d within pattern is. listed_at (slice_index_or ordered k d) pattern (sym (ordered_lists (all_patterns constraints) (slice_index_or ordered k d)) ∙ in_texts ordered (slice_index_or ordered k d) (All-contains_itself ordered k d within)) is))
      (listed_last (match_every_path (all_patterns constraints)))

  abbrev is_met_row : Row → Bool
  is_met_row = is_row_met surroundings.contexts surroundings.path (all_patterns constraints)

  abbrev met_here : List Row
  met_here = the_rows constraints rules surroundings

  abbrev pub asked_here : List (List ℕ)
  asked_here = asked_folders surroundings.has_login met_here

  asked_folder : (folder : List ℕ) → lists asked_here folder ≡ true → IsAsked folder
  asked_folder folder there =
      let its : (surroundings.has_login ≡ true) × (list_any (asks_in folder) met_here ≡ true) = asked_in surroundings.has_login met_here folder there in
      found (IsAsked folder) (asks_in folder) met_here its.1
      (λ k d within asks.
      row_asked folder (slice_index_or met_here k d).pattern (slice_index_or met_here k d).groups its.0 (reached_made constraints rules surroundings k d within)
      (kept_all HasListed is_met_row (table_of constraints rules).rows (λ j e inside passing. all_listed j e inside) k d within)
      (kept_all (λ (row : Row). is_met_row row ≡ true) is_met_row (table_of constraints rules).rows (λ j e inside passing. passing) k d within) asks)

  -- ---- The paths that a request without a caller may not get.
  abbrev IsBarred : List ℕ → Type 0
  IsBarred path = is_barred constraints rules path ≡ true

  one_barred : (within path : List ℕ) (served barred : Bool) → is_barred constraints rules within ≡ barred → cond (served && barred) (Some within) None ≡ Some path → IsBarred path
  one_barred within path false barred is gives = let no : ⊥ = cc in absurd no
  one_barred within path true false is gives = let no : ⊥ = cc in absurd no
  one_barred within path true true is gives = let same : within ≡ path = cc in ap (is_barred constraints rules) (sym same) ∙ is

  abbrev pub needs : List ℕ → Option (List ℕ)
  needs target = needed_at surroundings.contexts surroundings.path constraints rules target

  barred_of : (path : List ℕ) (result : Result Canon PathFault) → needed_of surroundings.contexts surroundings.path constraints rules result ≡ Some path → IsBarred path
  barred_of path (Ok canon) gives =
      one_barred (path_within surroundings.path canon.path) path (is_at_or_below surroundings.path canon.path && serves surroundings.contexts surroundings.path canon.path && not (is_protected (path_within surroundings.path canon.path)))
      (is_barred constraints rules (path_within surroundings.path canon.path)) refl gives
  barred_of path (Err fault) gives = let no : ⊥ = cc in absurd no

  -- ---- The references of the page.
  module _ (page : LoginPage) (known : surroundings.login_page ≡ Some page) where
    abbrev pub folders_here : List (List ℕ)
    folders_here = base_folders page.path asked_here

    abbrev pub loaded : List (List ℕ)
    loaded = loaded_references page.text

    abbrev pub needed_here : List ℕ → Option (List ℕ)
    needed_here reference = needed_by surroundings.contexts surroundings.path constraints rules folders_here reference

    abbrev pub all_needed : List (List ℕ)
    all_needed = needed_paths surroundings.contexts surroundings.path constraints rules folders_here page.text

    is_base : (folder : List ℕ) → lists folders_here folder ≡ true → IsBase constraints rules surroundings page folder
    is_base folder there = elim (base_in (is_protected page.path) (folder_of page.path) asked_here folder there) [ inl own ↦ inl own | inr asked ↦ inr (asked_folder folder asked) ]

    abbrev pub IsReferred : List ℕ → List ℕ → Type 0
    IsReferred reference path = (target : List ℕ) × Means constraints rules surroundings page reference target × (needs target ≡ Some path)

    pub referred : (reference path : List ℕ) (absolute : Bool) → is_absolute reference ≡ absolute
        → cond absolute (needs (path_part reference)) (first_given (λ folder. needs (target_in surroundings.path folder (path_part reference))) folders_here) ≡ Some path → IsReferred reference path
    referred reference path true is gives = (path_part reference, inl (is, refl), gives)
    referred reference path false is gives =
        let it : IsGiven (λ folder. needs (target_in surroundings.path folder (path_part reference))) path folders_here = given_by (λ folder. needs (target_in surroundings.path folder (path_part reference))) path folders_here gives in
        (target_in surroundings.path it.0 (path_part reference), inr (is, it.0, is_base it.0 it.1, refl), it.2)

    need_at : (path : List ℕ) → lists (different all_needed) path ≡ true → IsRight constraints rules surroundings (finding.LoginNeeds path)
    need_at path there =
        found (IsRight constraints rules surroundings (finding.LoginNeeds path)) (λ reference. lists (option_to_list (needed_here reference)) path) loaded
        (sym (any_of_joined (λ listed. bytes_eq listed path) (λ reference. option_to_list (needed_here reference)) loaded) ∙ sym (different_lists all_needed path) ∙ there)
        (λ k d within its.
        let reference : List ℕ = slice_index_or loaded k d in
        let it : IsReferred reference path = referred reference path (is_absolute reference) refl (in_option (needed_here reference) path its) in (
          page,
          known,
          barred_kind (verdict constraints rules (codes "GET") path None) (barred_of path (canonical it.0) it.2),
          (reference, in_texts loaded reference (All-contains_itself loaded k d within), it),
        ))

    needs_right : All (IsRight constraints rules surroundings) (map finding.LoginNeeds (different all_needed))
    needs_right =
        All-map (IsRight constraints rules surroundings) finding.LoginNeeds (different all_needed)
        (λ k d within. need_at (slice_index_or (different all_needed) k d) (in_texts (different all_needed) (slice_index_or (different all_needed) k d) (All-contains_itself (different all_needed) k d within)))

  page_right : (page : Option LoginPage) → surroundings.login_page ≡ page → All (IsRight constraints rules surroundings) (login_needs surroundings.contexts surroundings.path constraints rules surroundings.has_login met_here page)
  page_right None known = All-nil (IsRight constraints rules surroundings)
  page_right (Some page) known = needs_right page known

-- ---- Unserved patterns.
module _ (constraints : List Constraint) (rules : Rules) (surroundings : Surroundings) where
  abbrev answering : List (List ℕ) → List (List ℕ)
  answering files = reached_files surroundings.contexts surroundings.path files

  abbrev is_out : List (List ℕ) → List ℕ → Bool
  is_out files = is_unserved surroundings.contexts surroundings.path (all_patterns constraints) surroundings.servlets (answering files)

  unserved_at : (files : List (List ℕ)) → surroundings.files ≡ Some files → (c : Constraint) → Contains constraints c → All (IsRight constraints rules surroundings) (unserved_in (is_out files) c)
  unserved_at files known c there =
      All-map (IsRight constraints rules surroundings) (finding.Unserved c.number) (different (filter (is_out files) (patterns_in c)))
      (once_all (λ pattern. IsRight constraints rules surroundings (finding.Unserved c.number pattern)) (is_out files) (patterns_in c)
      (λ pattern listed out.
      let left : ((is_reached surroundings.contexts surroundings.path pattern && not (decides_nothing (all_patterns constraints) pattern) && not (may_answer (form pattern) surroundings.servlets)) ≡ true) × (not (may_be_among (form pattern) (answering files)) ≡ true) =
      and_parts (is_reached surroundings.contexts surroundings.path pattern && not (decides_nothing (all_patterns constraints) pattern) && not (may_answer (form pattern) surroundings.servlets)) (not (may_be_among (form pattern) (answering files))) out in (
        c,
        there,
        refl,
        listed,
        files,
        known,
        λ path matched. (
          none_meets pattern path surroundings.servlets matched (not-true (may_answer (form pattern) surroundings.servlets) (and_right (is_reached surroundings.contexts surroundings.path pattern && not (decides_nothing (all_patterns constraints) pattern)) (not (may_answer (form pattern) surroundings.servlets)) left.0)),
          none_held pattern path (answering files) matched (not-true (may_be_among (form pattern) (answering files)) left.1),
        ),
      )))

  unserved_in_all : (files : List (List ℕ)) → surroundings.files ≡ Some files → (many : Bool) → All (IsRight constraints rules surroundings) (cond many [] (flat_map (unserved_in (is_out files)) constraints))
  unserved_in_all files known true = All-nil (IsRight constraints rules surroundings)
  unserved_in_all files known false = joined (IsRight constraints rules surroundings) (unserved_in (is_out files)) constraints (λ k d within. unserved_at files known (slice_index_or constraints k d) (All-contains_itself constraints k d within))

  unserved_right : (files : Option (List (List ℕ))) → surroundings.files ≡ files → All (IsRight constraints rules surroundings) (option_map_or (unserved_among surroundings.contexts surroundings.path surroundings.servlets constraints) files [])
  unserved_right None known = All-nil (IsRight constraints rules surroundings)
  unserved_right (Some files) known = unserved_in_all files known (are_many constraints)

module _ (constraints : List Constraint) (rules : Rules) (surroundings : Surroundings) where
  abbrev The : Finding → Type 0
  The = IsRight constraints rules surroundings

  abbrev rows : List Row
  rows = the_rows constraints rules surroundings

  abbrev every : List Row
  every = (table_of constraints rules).rows

  abbrev pub opened : List Finding
  opened = flat_map (λ (row : Row). opened_at constraints row.pattern) rows

  abbrev pub uncovered : List Finding
  uncovered = flat_map (λ (row : Row). uncovered_at row.pattern row.groups) rows

  abbrev pub readings : List Finding
  readings = read_otherwise every rows

  abbrev pub heads : List Finding
  heads = flat_map (λ (row : Row). head_at surroundings.has_login row.pattern row.groups) rows

  by_row_right : All The (row_findings constraints surroundings.has_login every rows)
  by_row_right =
      All-append The (opened ++ uncovered ++ readings) heads
      (All-append The (opened ++ uncovered) readings
      (All-append The opened uncovered
      (rows_right constraints rules surroundings (λ pattern groups. opened_at constraints pattern) (λ pattern. opened_from constraints rules surroundings pattern (opened_pair constraints pattern) refl) (λ groups. All-nil The))
      (rows_right constraints rules surroundings uncovered_at (λ pattern. uncovered_from constraints rules surroundings pattern (list_all is_left_out (row_at constraints rules pattern).groups)) (λ groups. All-nil The)))
      (rows_right constraints rules surroundings (read_at (late constraints rules surroundings)) (λ pattern. reading_from constraints rules surroundings pattern (is_prefix (form pattern)) refl) (λ groups. All-nil The)))
      (rows_right constraints rules surroundings (head_at surroundings.has_login) (λ pattern. head_right constraints rules surroundings pattern) (λ groups. All-nil The))

  abbrev pub dead : List Finding
  dead = dead_among (all_patterns constraints) constraints

  abbrev pub partly_dead : List Finding
  partly_dead = dead_patterns (all_patterns constraints) constraints

  abbrev pub changing_nothing : List Finding
  changing_nothing = overruled rules (compared surroundings constraints)

  abbrev pub not_reached : List Finding
  not_reached = unreached surroundings.contexts surroundings.path constraints

  abbrev pub not_served : List Finding
  not_served = unserved surroundings.contexts surroundings.path surroundings constraints

  by_pattern_right : CanonicalHasShape → All The (pattern_findings constraints rules surroundings.contexts surroundings.path surroundings)
  by_pattern_right shapes =
      All-append The (dead ++ partly_dead ++ changing_nothing ++ not_reached ++ not_served) (escaped constraints)
      (All-append The (dead ++ partly_dead ++ changing_nothing ++ not_reached) not_served
      (All-append The (dead ++ partly_dead ++ changing_nothing) not_reached
      (All-append The (dead ++ partly_dead) changing_nothing
      (All-append The dead partly_dead (dead_right shapes constraints rules surroundings) (dead_patterns_right shapes constraints rules surroundings))
      (overruled_right shapes constraints rules surroundings))
      (unreached_right constraints rules surroundings))
      (unserved_right constraints rules surroundings surroundings.files refl))
      (escaped_right shapes constraints rules surroundings)

  by_role_right : All The (role_findings rules.declared surroundings.held constraints)
  by_role_right =
      All-append The (unknown_among rules.declared constraints ++ unheld_roles rules.declared surroundings.held constraints) (unused_roles rules.declared constraints)
      (All-append The (unknown_among rules.declared constraints) (unheld_roles rules.declared surroundings.held constraints) (unknown_right constraints rules surroundings) (unheld_from constraints rules surroundings surroundings.held refl))
      (unused_right constraints rules surroundings)

  abbrev by_page : List Finding
  by_page = login_needs surroundings.contexts surroundings.path constraints rules surroundings.has_login rows surroundings.login_page

  abbrev by_pattern : List Finding
  by_pattern = pattern_findings constraints rules surroundings.contexts surroundings.path surroundings

  all_right : CanonicalHasShape → All The (findings_of constraints rules (table_of constraints rules) surroundings)
  all_right shapes =
      All-append The (row_findings constraints surroundings.has_login every rows ++ by_pattern ++ by_page) (role_findings rules.declared surroundings.held constraints)
      (All-append The (row_findings constraints surroundings.has_login every rows ++ by_pattern) by_page
      (All-append The (row_findings constraints surroundings.has_login every rows) by_pattern by_row_right (by_pattern_right shapes))
      (page_right constraints rules surroundings surroundings.login_page refl)) by_role_right

decides_at : (constraints : List Constraint) (path pattern : List ℕ) (b : Bool) → decides_nothing (all_patterns constraints) pattern ≡ b → IsNeverBest constraints pattern ⊎ (b ≡ false) → IsServed path → best_pattern (all_patterns constraints) path ≡ Some pattern → b ≡ false
decides_at constraints path pattern b is (inl never) served best = absurd (never path served best)
decides_at constraints path pattern b is (inr none) served best = none

decides_or : (shapes : CanonicalHasShape) (constraints : List Constraint) (pattern : List ℕ) (b : Bool) → decides_nothing (all_patterns constraints) pattern ≡ b → IsNeverBest constraints pattern ⊎ (b ≡ false)
decides_or shapes constraints pattern true is = inl (never_best shapes constraints pattern is)
decides_or shapes constraints pattern false is = inr refl

pub best_decides : CanonicalHasShape → BestDecides
best_decides shapes constraints path pattern served best =
    let nothing : Bool = decides_nothing (all_patterns constraints) pattern in
    decides_at constraints path pattern nothing refl (decides_or shapes constraints pattern nothing refl) served best

pub findings_right : CanonicalHasShape → FindingsAreRight
findings_right shapes constraints rules surroundings = all_right constraints rules surroundings shapes
