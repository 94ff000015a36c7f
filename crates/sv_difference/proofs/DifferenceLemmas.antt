-- Each difference is right, and none is missed.
use Rattle.std.proofs.lemmas.Bool.{and_from, and_parts, false≢true, ne_eqb, not-true, not_from_false, or_left}
use Rattle.std.proofs.lemmas.List.Elements.{All-head, All-tail}
use Rattle.std.proofs.lemmas.List.Folds.{list_any-append}
use Rattle.std.proofs.lemmas.Slice.Eq.{bytes_eq-Decides}
use Rattle.std.proofs.Math.Bool.{and_comm}
use Rattle.std.proofs.Common.{◌≡◌, ℕ, Bool, true, false, not, ◌&&◌, ◌||◌, ◌==◌, List, [], ◌∷◌, ◌++◌, length, refl, ap, ap₂, sym, ◌∙◌, arith, cond, inl, inr, Option}
use Rattle.std.specs.Prelude.{◌≢◌, All, filter}
use Rattle.std.specs.List.{flat_map, list_any}
use Rattle.std.specs.Str.{bytes_eq}
use Rattle.sv_mapping.specs.BestMatch.{best_pattern}
use Rattle.sv_mapping.specs.Segments.{is_rooted}
use Rattle.sv_mapping.proofs.Tried.{In, In-cases, In-left, In-right}
use Rattle.sv_realm.specs.declared.caller.Caller.{Caller}
use Rattle.sv_constraints.specs.Covering.{covers_method, lists}
use Rattle.sv_constraints.specs.declared.constraint.Methods.{Methods}
use Rattle.sv_constraints.specs.declared.constraint.Methods.TheVariants.{Except, Only}
use Rattle.sv_constraints.specs.declared.constraint.Methods.TheVariants as methods
use Rattle.sv_policy.proofs.Steps.{passing_lists}
use Rattle.sv_policy.specs.Patterns.{BestIsOfTexts}
use Rattle.sv_policy.specs.Uncovered.{has_methods}
use Rattle.sv_audit.proofs.Callers.{apart}
use Rattle.sv_audit.specs.Callers.{has_method, same_callers}
use Rattle.sv_audit.specs.Reading.{Kind, Passes, NeedsLogin, IsDenied, TablesAreRight, is_same, said_to}
use Rattle.sv_audit.specs.Rows.{table_of}
use Rattle.sv_audit.specs.declared.rows.Group.{Group}
use Rattle.sv_audit.specs.declared.rows.Row.{Row}
use Rattle.sv_audit.proofs.Alikes.{differ_at}
use Rattle.sv_audit.proofs.Members.{all_from, any_found, found_any, in_along, in_kept, joined_from, kept_in}
use Rattle.sv_audit.proofs.SamePatterns.{same_decides, same_itself}
use Rattle.sv_difference.proofs.DifferentCells.{best_url, groups_say, only_all, only_some}
use Rattle.sv_difference.proofs.MeetingLemmas.{of_each, path_met}
use Rattle.sv_audit.proofs.Represented.{in_joined, in_listed, listed_in, longer}
use Rattle.sv_audit.specs.Configurations.{Configuration, HasUrlPatterns, best_of, fate_of, said_by}
use Rattle.sv_difference.specs.DifferenceLaws.{AreRooted, DifferencesAreComplete, DifferencesAreRight, HasRows, HaveSameFates, IsOf, IsOfKind, IsRight, LetsIn, LetsNobodyIn, NoneExactlyIfSame, differences_of, is_of}
use Rattle.sv_difference.specs.Differences.{between, by_kind, difference_of, differences_at, groups_at, meet, meeting_of, meetings, met_after, met_before, of_kind, row_path, same_kind, same_rows, url_patterns}
use Rattle.sv_audit.specs.Representatives.{file_path, long_name}
use Rattle.sv_audit.proofs.VisitorLemmas.{Letting, fate_by, letting_at, letting_in_exact}
use Rattle.sv_audit.specs.Visitors.{decided_by, known, lets_in}
use Rattle.sv_difference.specs.declared.difference.Difference.{Difference}
use Rattle.sv_audit.specs.declared.visitors.DifferenceKind.{DifferenceKind}
use Rattle.sv_audit.specs.declared.visitors.DifferenceKind.TheVariants.{Changed, Closed, Opened}
use Rattle.sv_audit.specs.declared.visitors.Logins.{Logins}
use Rattle.sv_difference.specs.declared.meetings.Meeting.{Meeting}

-- ---- Methods.
and_true : (a : Bool) → a ≡ (a && true)
and_true true = refl
and_true false = refl

neither : (a b : Bool) → not (a || (b && not a)) ≡ (not a && not b)
neither true b = refl
neither false true = refl
neither false false = refl

-- The methods of both sets are those that each has.
meet_covers : (first second : Methods) (method : List ℕ) → covers_method (meet first second) method ≡ (covers_method first method && covers_method second method)
meet_covers methods.All second method = refl
meet_covers (Only names) methods.All method = and_true (lists names method)
meet_covers (Only names) (Only others) method = passing_lists (lists others) names method
meet_covers (Only names) (Except others) method = passing_lists (λ name. not (lists others name)) names method
meet_covers (Except names) methods.All method = and_true (not (lists names method))
meet_covers (Except names) (Only others) method = passing_lists (λ name. not (lists names name)) others method ∙ and_comm (lists others method) (not (lists names method))
meet_covers (Except names) (Except others) method =
    ap not
    (list_any-append (λ listed. bytes_eq listed method) names (filter (λ name. not (lists names name)) others)
    ∙ ap (λ b. lists names method || b) (passing_lists (λ name. not (lists names name)) others method))
    ∙ neither (lists names method) (lists others method)

some_names : (names : List (List ℕ)) (method : List ℕ) → lists names method ≡ true → not (length names == 0) ≡ true
some_names [] method there = absurd (false≢true there)
some_names (name ∷ names) method there = not_from_false _ (ne_eqb _ 0 (λ none. absurd (omega (arith, none))))

-- A set that has a method is not empty.
has_some : (one : Methods) (method : List ℕ) → covers_method one method ≡ true → has_methods one ≡ true
has_some methods.All method there = refl
has_some (Only names) method there = some_names names method there
has_some (Except names) method there = refl

-- A set that is not empty has a method.
pub some_method : (one : Methods) → has_methods one ≡ true → (method : List ℕ) × (covers_method one method ≡ true)
some_method methods.All some = ([], refl)
some_method (Only []) some = absurd (false≢true some)
some_method (Only (name ∷ names)) some = (name, or_left _ _ ((bytes_eq-Decides name name).1 refl))
some_method (Except names) some = (file_path [] (long_name names) [], ap not (longer names [] []))

-- ---- Differences by kind.
of_some_kind : (difference : Difference) (found : List Difference) → In difference (by_kind found) → In difference found
of_some_kind difference found there =
    elim (In-cases difference (of_kind Opened found ++ of_kind Closed found) (of_kind Changed found) there) [
      | inl front ↦ elim (In-cases difference (of_kind Opened found) (of_kind Closed found) front) [
        | inl here ↦ kept_in (λ d. same_kind Opened d.kind) difference found here
        | inr here ↦ kept_in (λ d. same_kind Closed d.kind) difference found here
      ]
      | inr last ↦ kept_in (λ d. same_kind Changed d.kind) difference found last
    ]

in_kind : (kind : DifferenceKind) (difference : Difference) (found : List Difference) → difference.kind ≡ kind → In difference found → In difference (by_kind found)
in_kind Opened difference found is there =
    In-left difference (of_kind Opened found ++ of_kind Closed found) (of_kind Changed found)
    (In-left difference (of_kind Opened found) (of_kind Closed found) (in_kept (λ d. same_kind Opened d.kind) difference found there (ap (same_kind Opened) is)))
in_kind Closed difference found is there =
    In-left difference (of_kind Opened found ++ of_kind Closed found) (of_kind Changed found)
    (In-right difference (of_kind Opened found) (of_kind Closed found) (in_kept (λ d. same_kind Closed d.kind) difference found there (ap (same_kind Closed) is)))
in_kind Changed difference found is there =
    In-right difference (of_kind Opened found ++ of_kind Closed found) (of_kind Changed found) (in_kept (λ d. same_kind Changed d.kind) difference found there (ap (same_kind Changed) is))

-- ---- The difference of two groups.
module _ (logins : Logins) where
  between_from : (meeting : Meeting) (first second : Group) → same_callers (met_before logins first) (met_after logins second) ≡ false → has_methods (meet first.methods second.methods) ≡ true → between logins meeting first second ≡ difference_of logins meeting first second ∷ []
  between_from meeting first second apart_is some = ap₂ (λ a b. cond (a || not b) [] (difference_of logins meeting first second ∷ [])) apart_is some

  -- What a member of these differences shows.
  between_shows : (meeting : Meeting) (first second : Group) (difference : Difference) → In difference (between logins meeting first second)
      → (difference ≡ difference_of logins meeting first second) × (same_callers (met_before logins first) (met_after logins second) ≡ false) × (has_methods (meet first.methods second.methods) ≡ true)
  between_shows meeting first second difference there = go (same_callers (met_before logins first) (met_after logins second)) (has_methods (meet first.methods second.methods)) refl refl there
    where
      go : (same some : Bool) → same_callers (met_before logins first) (met_after logins second) ≡ same → has_methods (meet first.methods second.methods) ≡ some → In difference (cond (same || not some) [] (difference_of logins meeting first second ∷ []))
          → (difference ≡ difference_of logins meeting first second) × (same_callers (met_before logins first) (met_after logins second) ≡ false) × (has_methods (meet first.methods second.methods) ≡ true)
      go true some is was is_in = absurd is_in
      go false true is was (inl same) = (same, is, was)
      go false true is was (inr none) = absurd none
      go false false is was is_in = absurd is_in

-- ---- Kinds of decisions.
abbrev pub same_decision : Kind → Kind → Bool
same_decision Passes Passes = true
same_decision NeedsLogin NeedsLogin = true
same_decision IsDenied IsDenied = true
same_decision one other = false

pub decisions_same : (one other : Kind) → same_decision one other ≡ true → one ≡ other
decisions_same Passes Passes same = refl
decisions_same NeedsLogin NeedsLogin same = refl
decisions_same IsDenied IsDenied same = refl
decisions_same Passes NeedsLogin same = absurd (false≢true same)
decisions_same Passes IsDenied same = absurd (false≢true same)
decisions_same NeedsLogin Passes same = absurd (false≢true same)
decisions_same NeedsLogin IsDenied same = absurd (false≢true same)
decisions_same IsDenied Passes same = absurd (false≢true same)
decisions_same IsDenied NeedsLogin same = absurd (false≢true same)

decision_itself : (one : Kind) → same_decision one one ≡ true
decision_itself Passes = refl
decision_itself NeedsLogin = refl
decision_itself IsDenied = refl

pub decisions_apart : (one other : Kind) → same_decision one other ≡ false → one ≢ other
decisions_apart one other differ same = false≢true (sym differ ∙ (ap (same_decision one) (sym same) ∙ decision_itself one))

-- ---- Paths.
pub all_in : {X : Type 0} (P : X → Type 0) (x : X) (xs : List X) → All P xs → In x xs → P x
all_in P x [] all there = absurd there
all_in P x (y ∷ ys) all (inl same) = rw same (All-head P y ys all)
all_in P x (y ∷ ys) all (inr later) = all_in P x ys (All-tail P y ys all) later

pub row_rooted : (path : List ℕ) → is_rooted path ≡ true → is_rooted (row_path path) ≡ true
row_rooted [] rooted = refl
row_rooted (b ∷ path) rooted = rooted

module _ (right : TablesAreRight) (best_same : BestIsOfTexts) (paths : List (List ℕ)) (one other : Configuration) (one_url : HasUrlPatterns one) (other_url : HasUrlPatterns other) where
  abbrev befores : List Row
  befores = (table_of one.constraints one.rules).rows

  abbrev afters : List Row
  afters = (table_of other.constraints other.rules).rows

  abbrev its_meetings : List Meeting
  its_meetings = meetings (url_patterns befores) (url_patterns afters) paths

  -- ---- None is missed.
  -- A meeting of the rows of a path.
  record Meets (path : List ℕ) (meeting : Meeting) : Type 0 where
    is_one : In meeting its_meetings
    before : meeting.before ≡ best_of one path
    after : meeting.after ≡ best_of other path

  meeting_for : (path : List ℕ) → HasRows paths one other path → (meeting : Meeting) × Meets path meeting
  meeting_for path (shown, there, same_before, same_after) =
      let known = found_any (same_rows (meeting_of (url_patterns befores) (url_patterns afters) shown)) its_meetings (path_met (url_patterns befores) (url_patterns afters) paths [] shown (in_listed paths shown there)) in
      let same = and_parts (is_same (best_pattern (url_patterns befores) (row_path shown)) known.0.before) (is_same (best_pattern (url_patterns afters) (row_path shown)) known.0.after) known.2 in (
        known.0,
        record {
          is_one = known.1;
          before = sym (same_decides (best_pattern (url_patterns befores) (row_path shown)) known.0.before same.0) ∙ (best_url one best_same one_url (row_path shown) ∙ same_before);
          after = sym (same_decides (best_pattern (url_patterns afters) (row_path shown)) known.0.after same.1) ∙ (best_url other best_same other_url (row_path shown) ∙ same_after);
        },
      )

  abbrev logins : Logins
  logins = record { before = one.has_login; after = other.has_login }

  abbrev all_found : List Difference
  all_found = flat_map (differences_at logins befores afters) its_meetings

  module _ (method path : List ℕ) (visitor : Option Caller) (rooted : is_rooted path ≡ true) (rows : HasRows paths one other path) (apart_is : fate_of one method path visitor ≢ fate_of other method path visitor) where
    in_differences : (meeting : Meeting) → Meets path meeting → (first second : Group) → In first (groups_at befores meeting.before) → In second (groups_at afters meeting.after)
        → same_callers (met_before logins first) (met_after logins second) ≡ false → has_methods (meet first.methods second.methods) ≡ true
        → In (difference_of logins meeting first second) (differences_of paths one other)
    in_differences meeting meets first second is_first is_second differ some =
        in_kind (difference_of logins meeting first second).kind (difference_of logins meeting first second) all_found refl
        (in_joined (differences_at logins befores afters) meeting (difference_of logins meeting first second) its_meetings meets.is_one
        (in_joined (λ group. flat_map (between logins meeting group) (groups_at afters meeting.after)) first (difference_of logins meeting first second) (groups_at befores meeting.before) is_first
        (in_joined (between logins meeting first) second (difference_of logins meeting first second) (groups_at afters meeting.after) is_second
        (in_along (difference_of logins meeting first second ∷ []) (between logins meeting first second) (difference_of logins meeting first second) (sym (between_from logins meeting first second differ some)) (inl refl)))))

    abbrev caller_of : Configuration → Option Caller
    caller_of it = known it.has_login visitor

    complete : list_any (is_of one other method path) (differences_of paths one other) ≡ true
    complete =
        let meets = meeting_for path rows in
        let first = only_some (λ (group : Group). said_to (caller_of one) group.cell.access) (has_method method) (said_by one method path (caller_of one)) (groups_at befores (best_of one path)) (groups_say one right best_same method path (caller_of one) rooted) in
        let second = only_some (λ (group : Group). said_to (caller_of other) group.cell.access) (has_method method) (said_by other method path (caller_of other)) (groups_at afters (best_of other path)) (groups_say other right best_same method path (caller_of other) rooted) in
        let covered : covers_method (meet first.0.methods second.0.methods) method ≡ true = meet_covers first.0.methods second.0.methods method ∙ and_from (has_method method first.0) (has_method method second.0) first.2 second.2 in
        let differ : same_callers (met_before logins first.0) (met_after logins second.0) ≡ false =
        not-true _ (differ_at visitor (met_before logins first.0) (met_after logins second.0) (same_callers (met_before logins first.0) (met_after logins second.0)) refl
        (λ same. apart_is (fate_by one method path visitor first.0.cell.access (sym first.3) ∙ (same ∙ sym (fate_by other method path visitor second.0.cell.access (sym second.3)))))) in
        any_found (is_of one other method path) (difference_of logins meets.0 first.0 second.0) (differences_of paths one other)
        (in_differences meets.0 meets.1 first.0 second.0
        (in_along (groups_at befores (best_of one path)) (groups_at befores meets.0.before) first.0 (ap (groups_at befores) (sym meets.1.before)) first.1)
        (in_along (groups_at afters (best_of other path)) (groups_at afters meets.0.after) second.0 (ap (groups_at afters) (sym meets.1.after)) second.1)
        differ (has_some (meet first.0.methods second.0.methods) method covered))
        (and_from (is_same meets.0.before (best_of one path) && is_same meets.0.after (best_of other path)) _
        (and_from _ _ (ap (λ best. is_same best (best_of one path)) meets.1.before ∙ same_itself (best_of one path)) (ap (λ best. is_same best (best_of other path)) meets.1.after ∙ same_itself (best_of other path)))
        covered)

  -- ---- Each is right.
  -- A meeting at one of the paths.
  record IsMet (meeting : Meeting) : Type 0 where
    listed : lists paths meeting.path ≡ true
    before : best_of one (row_path meeting.path) ≡ meeting.before
    after : best_of other (row_path meeting.path) ≡ meeting.after

  are_met : (meeting : Meeting) → In meeting its_meetings → IsMet meeting
  are_met =
      of_each (url_patterns befores) (url_patterns afters) IsMet paths [] (λ meeting none. absurd none)
      (λ path there. record {
        listed = listed_in paths path there;
        before = sym (best_url one best_same one_url (row_path path));
        after = sym (best_url other best_same other_url (row_path path));
      })

  module _ (meeting : Meeting) (is_met : IsMet meeting) (first second : Group) (is_first : In first (groups_at befores meeting.before)) (is_second : In second (groups_at afters meeting.after))
      (rooted : AreRooted paths) (differ : same_callers (met_before logins first) (met_after logins second) ≡ false) (some : has_methods (meet first.methods second.methods) ≡ true) where
    abbrev it : Difference
    it = difference_of logins meeting first second

    both_cover : (method path : List ℕ) → IsOf one other it method path → (has_method method first ≡ true) × (has_method method second ≡ true)
    both_cover method path of = and_parts (has_method method first) (has_method method second) (sym (meet_covers first.methods second.methods method) ∙ of.covered)

    was_said : (method path : List ℕ) (caller : Option Caller) → IsOf one other it method path → said_by one method path caller ≡ said_to caller first.cell.access
    was_said method path caller of =
        sym (only_all (λ (group : Group). said_to caller group.cell.access) (has_method method) (said_by one method path caller) (groups_at befores (best_of one path)) (groups_say one right best_same method path caller of.rooted)
        first (in_along (groups_at befores meeting.before) (groups_at befores (best_of one path)) first (ap (groups_at befores) (sym of.before)) is_first) (both_cover method path of).0)

    becomes_said : (method path : List ℕ) (caller : Option Caller) → IsOf one other it method path → said_by other method path caller ≡ said_to caller second.cell.access
    becomes_said method path caller of =
        sym (only_all (λ (group : Group). said_to caller group.cell.access) (has_method method) (said_by other method path caller) (groups_at afters (best_of other path)) (groups_say other right best_same method path caller of.rooted)
        second (in_along (groups_at afters meeting.after) (groups_at afters (best_of other path)) second (ap (groups_at afters) (sym of.after)) is_second) (both_cover method path of).1)

    fate_before : (method path : List ℕ) (visitor : Option Caller) → IsOf one other it method path → fate_of one method path visitor ≡ decided_by (met_before logins first) visitor
    fate_before method path visitor of = fate_by one method path visitor first.cell.access (was_said method path (known one.has_login visitor) of)

    fate_after : (method path : List ℕ) (visitor : Option Caller) → IsOf one other it method path → fate_of other method path visitor ≡ decided_by (met_after logins second) visitor
    fate_after method path visitor of = fate_by other method path visitor second.cell.access (becomes_said method path (known other.has_login visitor) of)

    opens_to : lets_in (met_before logins first) (met_after logins second) ≡ true → LetsIn one other (IsOf one other it)
    opens_to lets =
        let visitor = (letting_in_exact (met_before logins first) (met_after logins second)).0 lets in
        (visitor.0, λ method path of. (λ same. visitor.1 (sym (fate_before method path visitor.0 of) ∙ same), fate_after method path visitor.0 of ∙ visitor.2))

    closes_to : lets_in (met_after logins second) (met_before logins first) ≡ true → LetsIn other one (IsOf one other it)
    closes_to lets =
        let visitor = (letting_in_exact (met_after logins second) (met_before logins first)).0 lets in
        (visitor.0, λ method path of. (λ same. visitor.1 (sym (fate_after method path visitor.0 of) ∙ same), fate_before method path visitor.0 of ∙ visitor.2))

    opens_to_none : lets_in (met_before logins first) (met_after logins second) ≡ false → LetsNobodyIn one other (IsOf one other it)
    opens_to_none none visitor method path of pass =
        fate_before method path visitor of
        ∙ (letting_in_exact (met_before logins first) (met_after logins second)).1 (not_from_false _ none) visitor (sym (fate_after method path visitor of) ∙ pass)

    closes_to_none : lets_in (met_after logins second) (met_before logins first) ≡ false → LetsNobodyIn other one (IsOf one other it)
    closes_to_none none visitor method path of pass =
        fate_after method path visitor of
        ∙ (letting_in_exact (met_after logins second) (met_before logins first)).1 (not_from_false _ none) visitor (sym (fate_before method path visitor of) ∙ pass)

    right_kind : (kind : DifferenceKind) → Letting (met_before logins first) (met_after logins second) kind → IsOfKind one other (IsOf one other it) kind
    right_kind Opened lets = opens_to lets
    right_kind Closed lets = (closes_to lets.0, opens_to_none lets.1)
    right_kind Changed lets = (closes_to_none lets.0, opens_to_none lets.1)

    is_right : IsRight one other it
    is_right =
        let visitor = apart (met_before logins first) (met_after logins second) (not_from_false _ differ) in
        record {
          rooted = all_in (λ path. is_rooted path ≡ true) meeting.path paths rooted (in_listed paths meeting.path is_met.listed);
          before = is_met.before;
          after = is_met.after;
          some = some;
          was = was_said;
          becomes = becomes_said;
          differs = (visitor.0, λ method path of same. visitor.1 (sym (fate_before method path visitor.0 of) ∙ (same ∙ fate_after method path visitor.0 of)));
          of_kind = right_kind it.kind (letting_at (met_before logins first) (met_after logins second));
        }

  abbrev IsRightThere : Difference → Type 0
  IsRightThere difference = IsRight one other difference × (lists paths difference.path ≡ true)

  right_at : AreRooted paths → (difference : Difference) → In difference (differences_of paths one other) → IsRightThere difference
  right_at rooted difference there =
      let meeting = joined_from (differences_at logins befores afters) difference its_meetings (of_some_kind difference all_found there) in
      let first = joined_from (λ group. flat_map (between logins meeting.0 group) (groups_at afters meeting.0.after)) difference (groups_at befores meeting.0.before) meeting.2 in
      let second = joined_from (between logins meeting.0 first.0) difference (groups_at afters meeting.0.after) first.2 in
      let shown = between_shows logins meeting.0 first.0 second.0 difference second.2 in
      let met = are_met meeting.0 meeting.1 in
      along difference (difference_of logins meeting.0 first.0 second.0) shown.0 (is_right meeting.0 met first.0 second.0 first.1 second.1 rooted shown.1 shown.2, met.listed)
    where
      along : (a b : Difference) → a ≡ b → IsRightThere b → IsRightThere a
      along a b same shown = rw same shown

  all_right : AreRooted paths → All IsRightThere (differences_of paths one other)
  all_right rooted = all_from IsRightThere (differences_of paths one other) (right_at rooted)

  -- ---- There is none exactly if each request has the same fate.
  same_if_none : ((path : List ℕ) → is_rooted path ≡ true → HasRows paths one other path) → differences_of paths one other ≡ [] → HaveSameFates one other
  same_if_none rows none method path visitor rooted = go (same_decision (fate_of one method path visitor) (fate_of other method path visitor)) refl
    where
      go : (same : Bool) → same_decision (fate_of one method path visitor) (fate_of other method path visitor) ≡ same → fate_of one method path visitor ≡ fate_of other method path visitor
      go true is = decisions_same (fate_of one method path visitor) (fate_of other method path visitor) is
      go false is =
          absurd (false≢true (sym (ap (list_any (is_of one other method path)) none) ∙ complete method path visitor rooted (rows path rooted) (decisions_apart (fate_of one method path visitor) (fate_of other method path visitor) is)))

  none_right : HaveSameFates one other → (difference : Difference) → IsRight one other difference → ⊥
  none_right same difference is =
      let method = some_method difference.methods is.some in
      let path = row_path difference.path in
      let rooted = row_rooted difference.path is.rooted in
      is.differs.1 method.0 path (record { rooted = rooted; before = is.before; after = is.after; covered = method.1 }) (same method.0 path is.differs.0 rooted)

  none_in : HaveSameFates one other → (found : List Difference) → ((difference : Difference) → In difference found → IsRight one other difference) → found ≡ []
  none_in same [] each = refl
  none_in same (difference ∷ found) each = absurd (none_right same difference (each difference (inl refl)))

  none_if_same : AreRooted paths → HaveSameFates one other → differences_of paths one other ≡ []
  none_if_same rooted same = none_in same (differences_of paths one other) (λ difference there. (right_at rooted difference there).0)

pub are_right : TablesAreRight → BestIsOfTexts → DifferencesAreRight
are_right right best_same paths one other rooted one_url other_url = all_right right best_same paths one other one_url other_url rooted

pub are_complete : TablesAreRight → BestIsOfTexts → DifferencesAreComplete
are_complete right best_same paths one other method path visitor one_url other_url rooted rows apart_is = complete right best_same paths one other one_url other_url method path visitor rooted rows apart_is

pub none_exactly : TablesAreRight → BestIsOfTexts → NoneExactlyIfSame
none_exactly right best_same paths one other rooted one_url other_url rows =
    (same_if_none right best_same paths one other one_url other_url rows, none_if_same right best_same paths one other one_url other_url rooted)
