-- Nothing is missed of what the login page needs.
use Rattle.std.proofs.lemmas.Bool.{false≢true}
use Rattle.std.proofs.lemmas.List.{take_all}
use Rattle.std.proofs.lemmas.List.Folds.{list_any_at}
use Rattle.std.proofs.lemmas.Slice.Eq.{bytes_eq-Decides}
use Rattle.std.proofs.Common.{◌≡◌, ℕ, Bool, true, false, ◌||◌, List, [], ◌∷◌, ◌++◌, codes, take, refl, ap, sym, ◌∙◌, cond, Option, None, Some, inl, inr}
use Rattle.std.specs.Prelude.{slice_index_or}
use Rattle.std.specs.List.{flat_map, list_any}
use Rattle.std.specs.Option.{option_or, option_to_list}
use Rattle.std.specs.Str.{bytes_eq}
use Rattle.sv_mapping.specs.BestMatch.{BestIsAMatch, best_pattern}
use Rattle.sv_mapping.specs.Pattern.{form}
use Rattle.sv_mapping.specs.Protected.{is_protected}
use Rattle.sv_constraints.specs.Covering.{all_patterns, lists}
use Rattle.sv_constraints.specs.Verdict.{verdict}
use Rattle.sv_constraints.specs.declared.cause.Cause.{Cause}
use Rattle.sv_constraints.specs.declared.constraint.Constraint.{Constraint}
use Rattle.sv_constraints.specs.declared.constraint.Rules.{Rules}
use Rattle.sv_policy.proofs.Best.{any_in, or_right}
use Rattle.sv_policy.proofs.Listed.{any_seen, different_lists}
use Rattle.sv_policy.proofs.Rising.{same_text}
use Rattle.sv_policy.proofs.Steps.{any_of_joined}
use Rattle.sv_policy.specs.Patterns.{different}
use Rattle.sv_audit.proofs.Equal.{both}
use Rattle.sv_audit.proofs.Found.{in_texts}
use Rattle.sv_audit.proofs.Witness.{found}
use Rattle.sv_audit.specs.Callers.{has_method}
use Rattle.sv_audit.specs.Reading.{IsDenied, Kind, NeedsLogin, Passes, kind_and_cause, said_to}
use Rattle.sv_audit.specs.Rows.{row_at, table_of}
use Rattle.sv_audit.specs.Visitors.{needs_login}
use Rattle.sv_audit.specs.declared.access.Access.{Access}
use Rattle.sv_audit.specs.declared.access.Access.TheVariants.{Unconstrained, Uncovered, UncoveredDenied, Precluded, NeedsTls, Everyone, AnyLogin, Roles}
use Rattle.sv_audit.specs.declared.rows.Group.{Group}
use Rattle.sv_audit.specs.declared.rows.Row.{Row}
use Rattle.sv_findings.proofs.FindingLemmas.{IsReferred, all_needed, asked_groups, asked_here, asks_in, folders_here, in_row, loaded, needed_here, needs, referred, says, the_rows}
use Rattle.sv_findings.proofs.FoundFindings.{among_page, row_found, some_group}
use Rattle.sv_findings.specs.FindingLaws.{AreAllAsked, AskedNeedIsFound, IsMet, MeansDirectly, NamesNeedOf, NeedIsFound, says_needed}
use Rattle.sv_findings.specs.Findings.{findings_of}
use Rattle.sv_findings.specs.LoginNeeds.{all_asked, asked_at, first_given, folder_of, folder_of_form, target_in, is_absolute, is_asked, login_needs, path_part}
use Rattle.sv_findings.specs.declared.asked_folders.TheConstants.{MAX_ASKED_FOLDERS}
use Rattle.sv_findings.specs.declared.finding.Finding.TheVariants as finding
use Rattle.sv_findings.specs.declared.surroundings.LoginPage.{LoginPage}
use Rattle.sv_findings.specs.declared.surroundings.Surroundings.{Surroundings}

-- ---- If a function gives a path for one of the folders, it gives a first one.
module _ (given : List ℕ → Option (List ℕ)) where
  abbrev HasFirst : Option (List ℕ) → Type 0
  HasFirst first = (path : List ℕ) × (first ≡ Some path)

  first_at : (one folder path : List ℕ) (folders : List (List ℕ)) (first : Option (List ℕ)) (same : Bool) → given one ≡ first → bytes_eq one folder ≡ same → (same || lists folders folder) ≡ true → given folder ≡ Some path
      → (lists folders folder ≡ true → HasFirst (first_given given folders)) → HasFirst (option_or first (first_given given folders))
  first_at one folder path folders (Some own) same is was there gives later = (own, refl)
  first_at one folder path folders None true is was there gives later =
      let none : None ≡ Some path = sym is ∙ ap given ((bytes_eq-Decides one folder).0 was) ∙ gives in
      let no : ⊥ = cc in absurd no
  first_at one folder path folders None false is was there gives later = later there

  has_first : (folder path : List ℕ) (folders : List (List ℕ)) → lists folders folder ≡ true → given folder ≡ Some path → HasFirst (first_given given folders)
  has_first folder path [] there gives = absurd (false≢true there)
  has_first folder path (one ∷ folders) there gives = first_at one folder path folders (given one) (bytes_eq one folder) refl refl there gives (λ below. has_first folder path folders below gives)

said_needs : (access : Access) → (said_to None access).0 ≡ NeedsLogin → needs_login access ≡ true
said_needs Unconstrained is = let apart : Passes ≡ NeedsLogin = is in cc
said_needs Uncovered is = let apart : Passes ≡ NeedsLogin = is in cc
said_needs UncoveredDenied is = let apart : IsDenied ≡ NeedsLogin = is in cc
said_needs Precluded is = let apart : IsDenied ≡ NeedsLogin = is in cc
said_needs NeedsTls is = let apart : IsDenied ≡ NeedsLogin = is in cc
said_needs Everyone is = let apart : Passes ≡ NeedsLogin = is in cc
said_needs AnyLogin is = refl
said_needs (Roles names) is = refl

module _ (constraints : List Constraint) (rules : Rules) (surroundings : Surroundings) where
  -- ---- The folder of a pattern at which a GET without a caller leads to a login is asked.
  module _ (pattern path : List ℕ) (best : best_pattern (all_patterns constraints) path ≡ Some pattern) (sent : (kind_and_cause (verdict constraints rules (codes "GET") path None)).0 ≡ NeedsLogin) where
    abbrev its_folder : List ℕ
    its_folder = folder_of_form (form pattern)

    group_asked : list_any is_asked (asked_groups constraints rules surroundings pattern) ≡ true
    group_asked =
        let groups : List Group = asked_groups constraints rules surroundings pattern in
        found (list_any is_asked groups ≡ true) (has_method (codes "GET")) groups (some_group constraints rules pattern (codes "GET"))
        (λ k d within has.
        let group : Group = slice_index_or groups k d in
        list_any_at is_asked groups k d within
        (both (has_method (codes "GET") group) (needs_login group.cell.access) has
        (said_needs group.cell.access (ap (λ (x : Kind × Cause). x.0) (says constraints rules pattern (codes "GET") path None group.cell best (in_row constraints rules pattern (codes "GET") k d within has)) ∙ sent))))

    row_asks : asks_in its_folder (row_at constraints rules pattern) ≡ true
    row_asks = ap (λ b. lists (cond b (its_folder ∷ []) []) its_folder) group_asked ∙ ap (λ b. b || false) (same_text its_folder)

    folder_asked : surroundings.has_login ≡ true → lists (all_patterns constraints) pattern ≡ true → IsMet constraints surroundings pattern → AreAllAsked constraints rules surroundings → lists (asked_here constraints rules surroundings) its_folder ≡ true
    folder_asked login listed met few =
        let rows : List Row = the_rows constraints rules surroundings in
        let every : List (List ℕ) = flat_map (λ (row : Row). asked_at row.pattern row.groups) rows in
        ap (λ b. lists (cond b (take MAX_ASKED_FOLDERS (all_asked rows)) []) its_folder) login
        ∙ ap (λ its. lists its its_folder) (take_all MAX_ASKED_FOLDERS (all_asked rows) few)
        ∙ different_lists every its_folder ∙ any_of_joined (λ one. bytes_eq one its_folder) (λ (row : Row). asked_at row.pattern row.groups) rows
        ∙ row_found constraints rules pattern surroundings (asks_in its_folder) listed met row_asks

  -- ---- What a reference needs is found.
  module _ (page : LoginPage) (known : surroundings.login_page ≡ Some page) (reference : List ℕ) (refers : lists (loaded constraints rules surroundings page known) reference ≡ true) where
    abbrev needed : List ℕ → Option (List ℕ)
    needed one = needed_here constraints rules surroundings page known one

    abbrev paths : List (List ℕ)
    paths = all_needed constraints rules surroundings page known

    need_found : (path : List ℕ) → needed reference ≡ Some path → list_any (says_needed path) (findings_of constraints rules (table_of constraints rules) surroundings) ≡ true
    need_found path gives =
        among_page constraints rules surroundings (says_needed path)
        (ap (λ its. list_any (says_needed path) (login_needs surroundings.contexts surroundings.path constraints rules surroundings.has_login (the_rows constraints rules surroundings) its)) known
        ∙ any_seen (says_needed path) finding.LoginNeeds (different paths) ∙ different_lists paths path
        ∙ any_of_joined (λ one. bytes_eq one path) (λ one. option_to_list (needed one)) (loaded constraints rules surroundings page known)
        ∙ any_in (λ one. lists (option_to_list (needed one)) path) (loaded constraints rules surroundings page known) reference refers
        (ap (λ its. lists (option_to_list its) path) gives ∙ ap (λ b. b || false) (same_text path)))

    abbrev in_its : List ℕ → Option (List ℕ)
    in_its folder = needs constraints rules surroundings (target_in surroundings.path folder (path_part reference))

    abbrev by_kind : Bool → Option (List ℕ)
    by_kind absolute = cond absolute (needs constraints rules surroundings (path_part reference)) (first_given in_its (folders_here constraints rules surroundings page known))

    direct_needed : (target path : List ℕ) → MeansDirectly surroundings page reference target → needs constraints rules surroundings target ≡ Some path → needed reference ≡ Some path
    direct_needed target path (inl (is, same)) gives = ap by_kind is ∙ sym (ap (needs constraints rules surroundings) same) ∙ gives
    direct_needed target path (inr (is, open_to_all, same)) gives =
        ap by_kind is ∙ ap (λ hidden. first_given in_its (cond hidden [] (folder_of page.path ∷ []) ++ asked_here constraints rules surroundings)) open_to_all
        ∙ ap (λ first. option_or first (first_given in_its (asked_here constraints rules surroundings))) (sym (ap (needs constraints rules surroundings) same) ∙ gives)

    asked_need : (folder path : List ℕ) → is_absolute reference ≡ false → lists (folders_here constraints rules surroundings page known) folder ≡ true → in_its folder ≡ Some path → NamesNeedOf constraints rules surroundings page reference
    asked_need folder path relative there gives =
        let its : HasFirst in_its (first_given in_its (folders_here constraints rules surroundings page known)) = has_first in_its folder path (folders_here constraints rules surroundings page known) there gives in
        let it : IsReferred constraints rules surroundings page known reference its.0 = referred constraints rules surroundings page known reference its.0 false relative its.1 in
        (its.0, it.0, it.1, it.2, need_found its.0 (ap by_kind relative ∙ its.1))

later_in : (hidden : Bool) (own folder : List ℕ) (asked : List (List ℕ)) → lists asked folder ≡ true → lists (cond hidden [] (own ∷ []) ++ asked) folder ≡ true
later_in true own folder asked there = there
later_in false own folder asked there = or_right (bytes_eq own folder) (lists asked folder) there

pub need_is_found : NeedIsFound
need_is_found constraints rules surroundings page reference target path refers means gives =
    need_found constraints rules surroundings page refers.0 reference refers.1 path (direct_needed constraints rules surroundings page refers.0 reference refers.1 target path means gives)

pub asked_need_is_found : BestIsAMatch → AskedNeedIsFound
asked_need_is_found best_is_a_match constraints rules surroundings page reference pattern path need refers relative sent few gives =
    let listed : lists (all_patterns constraints) pattern ≡ true = in_texts (all_patterns constraints) pattern (best_is_a_match (all_patterns constraints) path pattern sent.2).0 in
    asked_need constraints rules surroundings page refers.0 reference refers.1 (folder_of_form (form pattern)) need relative
    (later_in (is_protected page.path) (folder_of page.path) (folder_of_form (form pattern)) (asked_here constraints rules surroundings) (folder_asked constraints rules surroundings pattern path sent.2 sent.3 sent.0 listed sent.1 few))
    gives
