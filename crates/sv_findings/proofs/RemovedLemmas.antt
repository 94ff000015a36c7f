-- Without an overruled constraint each request is decided alike.
use Rattle.std.proofs.lemmas.Bool.{false≢true, not-true}
use Rattle.std.proofs.lemmas.List.Elements.{All-contains_itself, Contains-append_right}
use Rattle.std.proofs.lemmas.List.Folds.{list_any_at}
use Rattle.std.proofs.lemmas.Slice.Eq.{bytes_eq-Decides}
use Rattle.std.proofs.Common.{arith, ◌≡◌, ◌<◌, ℕ, Bool, true, false, not, ◌||◌, ◌&&◌, ◌==◌, List, [], ◌∷◌, ◌++◌, length, refl, ap, sym, ◌∙◌, Option, None, Some, is_some, inl, inr, subst, ◌⊎◌}
use Rattle.std.specs.Prelude.{Contains, slice_index_or}
use Rattle.std.specs.List.{list_any}
use Rattle.std.specs.Str.{bytes_eq}
use Rattle.sv_mapping.specs.BestMatch.{BestExists, BestIsUnique, best_pattern, is_best, outranks}
use Rattle.sv_mapping.specs.Pattern.{matches}
use Rattle.sv_realm.specs.declared.caller.Caller.{Caller}
use Rattle.sv_uri.specs.Shape.{CanonicalHasShape}
use Rattle.sv_constraints.specs.Covering.{all_patterns, covering, covers, lists, patterns_in}
use Rattle.sv_constraints.specs.Verdict.{verdict, verdict_at}
use Rattle.sv_constraints.specs.declared.constraint.Constraint.{Constraint}
use Rattle.sv_constraints.specs.declared.constraint.Rules.{Rules}
use Rattle.sv_policy.proofs.Best.{any_in, found_in}
use Rattle.sv_policy.proofs.Listed.{covers_listed, listed_any, listed_by}
use Rattle.sv_policy.specs.Patterns.{lists_pattern}
use Rattle.sv_audit.proofs.Equal.{and_left, and_right, both}
use Rattle.sv_audit.proofs.Filters.{filter_map}
use Rattle.sv_audit.proofs.Witness.{found}
use Rattle.sv_audit.specs.Reading.{Kind, kind_and_cause}
use Rattle.sv_audit.specs.Rows.{table_of}
use Rattle.sv_audit.specs.Secure.{secure, secured}
use Rattle.sv_audit.specs.Shapes.{IsServed}
use Rattle.sv_findings.proofs.FindingLemmas.{findings_right}
use Rattle.sv_findings.proofs.OpenedLemmas.{kept_any}
use Rattle.sv_findings.proofs.OverruledLemmas.{all_others, no_from, swapped}
use Rattle.sv_findings.specs.FindingLaws.{ChangesNothing, DecideAlikeWithout, IsOverruled, IsRight, OverruledIsRemovable, says_overruled}
use Rattle.sv_findings.specs.Findings.{findings_of}
use Rattle.sv_findings.specs.Overruled.{compared}
use Rattle.sv_overruled.specs.Overruled.{has_number, others}
use Rattle.sv_findings.specs.declared.finding.Finding.{Finding}
use Rattle.sv_findings.specs.declared.finding.Finding.TheVariants.{Opened, Uncovered, ReadOtherwise, HeadDiffers, Dead, DeadPattern, Overruled, Unreached, Unserved, Escaped, LoginNeeds, UnknownRole, UnheldRole, UnusedRole}
use Rattle.sv_findings.specs.declared.surroundings.Surroundings.{Surroundings}

-- ---- The best match among fewer patterns.
module _ (x : List ℕ) where
  contains_at : (y : List ℕ) (xs : List (List ℕ)) (same : Bool) → bytes_eq y x ≡ same → (same || lists xs x) ≡ true → (lists xs x ≡ true → Contains xs x) → Contains (y ∷ xs) x
  contains_at y xs true at there below = (0, omega arith, (bytes_eq-Decides y x).0 at)
  contains_at y xs false at there below = Contains-append_right (y ∷ []) xs x (below there)

  listed_contains : (xs : List (List ℕ)) → lists xs x ≡ true → Contains xs x
  listed_contains [] there = absurd (false≢true there)
  listed_contains (y ∷ xs) there = contains_at y xs (bytes_eq y x) refl there (listed_contains xs)

none_from : (o : Option (List ℕ)) → is_some o ≡ false → o ≡ None
none_from None is = refl
none_from (Some x) is = absurd (false≢true (sym is))

module _ (patterns fewer : List (List ℕ)) (within : (text : List ℕ) → lists fewer text ≡ true → lists patterns text ≡ true) (path : List ℕ) where
  any_fewer : (test : List ℕ → Bool) → list_any test fewer ≡ true → list_any test patterns ≡ true
  any_fewer test some =
      found (list_any test patterns ≡ true) test fewer some
      (λ k d inside passes.
      let text : List ℕ = slice_index_or fewer k d in
      any_in test patterns text (within text (found_text k d inside)) passes)
    where
      found_text : (k : ℕ) (d : List ℕ) → k < length fewer → lists fewer (slice_index_or fewer k d) ≡ true
      found_text k d inside = list_any_at (λ listed. bytes_eq listed (slice_index_or fewer k d)) fewer k d inside ((bytes_eq-Decides (slice_index_or fewer k d) (slice_index_or fewer k d)).1 refl)

  abbrev beats : List ℕ → List ℕ → Bool
  beats pattern other = matches other path && outranks other pattern

  module _ (pattern : List ℕ) (best : best_pattern patterns path ≡ Some pattern) (there : lists fewer pattern ≡ true) where
    is_best_here : is_best patterns path pattern ≡ true
    is_best_here = (found_in (is_best patterns path) patterns pattern best).0

    its_match : matches pattern path ≡ true
    its_match = and_left (matches pattern path) (not (list_any (beats pattern) patterns)) is_best_here

    none_beats : list_any (beats pattern) fewer ≡ false
    none_beats = no_from (list_any (beats pattern) fewer) (λ some. false≢true (sym (not-true (list_any (beats pattern) patterns) (and_right (matches pattern path) (not (list_any (beats pattern) patterns)) is_best_here)) ∙ any_fewer (beats pattern) some))

    is_best_there : is_best fewer path pattern ≡ true
    is_best_there = both (matches pattern path) (not (list_any (beats pattern) fewer)) its_match (ap not none_beats)

    best_from : BestExists → BestIsUnique → (its_best : Option (List ℕ)) → best_pattern fewer path ≡ its_best → its_best ≡ Some pattern
    best_from best_exists unique None is = absurd (false≢true (sym (ap is_some is) ∙ best_exists fewer path ∙ any_in (λ one. matches one path) fewer pattern there its_match))
    best_from best_exists unique (Some other) is =
        let it : (is_best fewer path other ≡ true) × (lists fewer other ≡ true) = found_in (is_best fewer path) fewer other is in
        ap Some (unique fewer path other pattern (listed_contains other fewer it.1) (listed_contains pattern fewer there) it.0 is_best_there)

    pub best_fewer : BestExists → BestIsUnique → best_pattern fewer path ≡ Some pattern
    best_fewer best_exists unique = best_from best_exists unique (best_pattern fewer path) refl

  pub none_fewer : BestExists → best_pattern patterns path ≡ None → best_pattern fewer path ≡ None
  none_fewer best_exists none =
      none_from (best_pattern fewer path)
      (best_exists fewer path
      ∙ no_from (list_any (λ one. matches one path) fewer) (λ some. false≢true (sym (ap is_some none) ∙ best_exists patterns path ∙ any_fewer (λ one. matches one path) some)))

-- ---- The constraints without their transport requirements.
secure_patterns : (constraints : List Constraint) → all_patterns (secure constraints) ≡ all_patterns constraints
secure_patterns [] = refl
secure_patterns (c ∷ constraints) = ap (λ rest. patterns_in c ++ rest) (secure_patterns constraints)

secure_covering : (constraints : List Constraint) (pattern : Option (List ℕ)) (method : List ℕ) → covering (secure constraints) pattern method ≡ secure (covering constraints pattern method)
secure_covering constraints None method = refl
secure_covering constraints (Some pattern) method = filter_map secured (λ c. covers c pattern method) constraints

-- ---- The verdicts.
module _ (best_exists : BestExists) (unique : BestIsUnique) (constraints : List Constraint) (rules : Rules) (constraint : Constraint) (alone : (other : Constraint) → Contains constraints other → other.number ≡ constraint.number → other ≡ constraint)
    (nothing : (path pattern : List ℕ) → IsServed path → best_pattern (all_patterns constraints) path ≡ Some pattern → lists (patterns_in constraint) pattern ≡ true → ChangesNothing constraints rules constraint pattern) where
  abbrev number : ℕ
  number = constraint.number

  abbrev rest : List Constraint
  rest = others number constraints

  abbrev is_other : Constraint → Bool
  is_other c = not (has_number number c)

  rest_listed : (text : List ℕ) → lists (all_patterns rest) text ≡ list_any (λ c. is_other c && lists_pattern c text) constraints
  rest_listed text = listed_any rest text ∙ kept_any (λ c. lists_pattern c text) is_other constraints

  rest_within : (text : List ℕ) → lists (all_patterns rest) text ≡ true → lists (all_patterns constraints) text ≡ true
  rest_within text there =
      listed_any constraints text
      ∙ found (list_any (λ c. lists_pattern c text) constraints ≡ true) (λ c. is_other c && lists_pattern c text) constraints (sym (rest_listed text) ∙ there)
      (λ k d within it. list_any_at (λ c. lists_pattern c text) constraints k d within (and_right (is_other (slice_index_or constraints k d)) (lists_pattern (slice_index_or constraints k d) text) it))

  number_from : (c : Constraint) → has_number number c ≡ true → c.number ≡ number
  number_from c is = grind (arith, is)

  own_or_other : (text : List ℕ) (c : Constraint) → Contains constraints c → (own : Bool) → has_number number c ≡ own → lists_pattern c text ≡ true → (list_any (λ x. is_other x && lists_pattern x text) constraints ≡ true → lists (all_patterns rest) text ≡ true)
      → (own ≡ false → list_any (λ x. is_other x && lists_pattern x text) constraints ≡ true) → (lists (patterns_in constraint) text ≡ true) ⊎ (lists (all_patterns rest) text ≡ true)
  own_or_other text c there true is listing back among = inl (listed_by text constraint ∙ ap (λ x. lists_pattern x text) (sym (alone c there (number_from c is))) ∙ listing)
  own_or_other text c there false is listing back among = inr (back (among refl))

  listed_in : (text : List ℕ) → lists (all_patterns constraints) text ≡ true → (lists (patterns_in constraint) text ≡ true) ⊎ (lists (all_patterns rest) text ≡ true)
  listed_in text listed =
      found ((lists (patterns_in constraint) text ≡ true) ⊎ (lists (all_patterns rest) text ≡ true)) (λ c. lists_pattern c text) constraints (sym (listed_any constraints text) ∙ listed)
      (λ k d within listing.
      let c : Constraint = slice_index_or constraints k d in
      own_or_other text c (All-contains_itself constraints k d within) (has_number number c) refl listing (λ some. rest_listed text ∙ some)
      (λ other. list_any_at (λ x. is_other x && lists_pattern x text) constraints k d within (both (is_other c) (lists_pattern c text) (ap not other) listing)))

  abbrev kind_with : Option Caller → Option (List ℕ) → List Constraint → Kind
  kind_with caller pattern members = (kind_and_cause (verdict_at rules caller pattern members)).0

  abbrev best : List ℕ → Option (List ℕ)
  best path = best_pattern (all_patterns constraints) path

  rest_covering : (pattern method : List ℕ) → covering rest (Some pattern) method ≡ others number (covering constraints (Some pattern) method)
  rest_covering pattern method = swapped (λ c. covers c pattern method) is_other constraints

  abbrev AreSame : List ℕ → List ℕ → Option Caller → Option (List ℕ) → Option (List ℕ) → Type 0
  AreSame method path caller pattern other =
      (kind_with caller pattern (covering constraints pattern method) ≡ kind_with caller other (covering rest other method))
      × (kind_with caller pattern (secure (covering constraints pattern method)) ≡ kind_with caller other (secure (covering rest other method)))

  -- At a pattern of the constraint the others decide alike. At another one it covers nothing.
  same_by : (method path pattern : List ℕ) (caller : Option Caller) → ChangesNothing constraints rules constraint pattern → AreSame method path caller (Some pattern) (Some pattern)
  same_by method path pattern caller it = (
    ((it.1 method).1 caller).0 ∙ ap (kind_with caller (Some pattern)) (sym (rest_covering pattern method)),
    ((it.1 method).1 caller).1 ∙ ap (λ members. kind_with caller (Some pattern) (secure members)) (sym (rest_covering pattern method)),
  )

  same_without : (method pattern : List ℕ) → lists (patterns_in constraint) pattern ≡ false → covering rest (Some pattern) method ≡ covering constraints (Some pattern) method
  same_without method pattern unlisted =
      rest_covering pattern method
      ∙ all_others number (covering constraints (Some pattern) method)
      (no_from (list_any (has_number number) (covering constraints (Some pattern) method))
      (λ some. false≢true (sym unlisted
      ∙ found (lists (patterns_in constraint) pattern ≡ true) (λ c. covers c pattern method && has_number number c) constraints (sym (kept_any (has_number number) (λ c. covers c pattern method) constraints) ∙ some)
      (λ k d within it.
      let c : Constraint = slice_index_or constraints k d in
      listed_by pattern constraint
      ∙ ap (λ x. lists_pattern x pattern) (sym (alone c (All-contains_itself constraints k d within) (number_from c (and_right (covers c pattern method) (has_number number c) it))))
      ∙ covers_listed pattern method c (and_left (covers c pattern method) (has_number number c) it)))))

  at_pattern : (method path pattern : List ℕ) (caller : Option Caller) → IsServed path → best path ≡ Some pattern → (own : Bool) → lists (patterns_in constraint) pattern ≡ own → (lists (all_patterns rest) pattern ≡ true) × AreSame method path caller (Some pattern) (Some pattern)
  at_pattern method path pattern caller served is true listed = let it : ChangesNothing constraints rules constraint pattern = nothing path pattern served is listed in (it.0, same_by method path pattern caller it)
  at_pattern method path pattern caller served is false unlisted = (
    elim (listed_in pattern (found_in (is_best (all_patterns constraints) path) (all_patterns constraints) pattern is).1) [ inl own ↦ absurd (false≢true (sym unlisted ∙ own)) | inr there ↦ there ],
    (ap (kind_with caller (Some pattern)) (sym (same_without method pattern unlisted)), ap (λ members. kind_with caller (Some pattern) (secure members)) (sym (same_without method pattern unlisted))),
  )

  moved : (method path : List ℕ) (caller : Option Caller) (one two its_one its_two : Option (List ℕ)) → one ≡ its_one → two ≡ its_two → AreSame method path caller its_one its_two → AreSame method path caller one two
  moved method path caller one two its_one its_two is was same = (
    ap (λ b. kind_with caller b (covering constraints b method)) is ∙ same.0 ∙ sym (ap (λ b. kind_with caller b (covering rest b method)) was),
    ap (λ b. kind_with caller b (secure (covering constraints b method))) is ∙ same.1 ∙ sym (ap (λ b. kind_with caller b (secure (covering rest b method))) was),
  )

  by_best : (method path : List ℕ) (caller : Option Caller) → IsServed path → (its_best : Option (List ℕ)) → best path ≡ its_best → AreSame method path caller (best path) (best_pattern (all_patterns rest) path)
  by_best method path caller served None is =
      moved method path caller (best path) (best_pattern (all_patterns rest) path) None None is (none_fewer (all_patterns constraints) (all_patterns rest) rest_within path best_exists is) (refl, refl)
  by_best method path caller served (Some pattern) is =
      let it : (lists (all_patterns rest) pattern ≡ true) × AreSame method path caller (Some pattern) (Some pattern) = at_pattern method path pattern caller served is (lists (patterns_in constraint) pattern) refl in
      moved method path caller (best path) (best_pattern (all_patterns rest) path) (Some pattern) (Some pattern) is (best_fewer (all_patterns constraints) (all_patterns rest) rest_within path pattern is it.0 best_exists unique) it.1

  secure_kind : (cs : List Constraint) (method path : List ℕ) (caller : Option Caller) → (kind_and_cause (verdict (secure cs) rules method path caller)).0
      ≡ kind_with caller (best_pattern (all_patterns cs) path) (secure (covering cs (best_pattern (all_patterns cs) path) method))
  secure_kind cs method path caller =
      ap (λ patterns. kind_with caller (best_pattern patterns path) (covering (secure cs) (best_pattern patterns path) method)) (secure_patterns cs)
      ∙ ap (kind_with caller (best_pattern (all_patterns cs) path)) (secure_covering cs (best_pattern (all_patterns cs) path) method)

  pub without_it : DecideAlikeWithout constraints rules number
  without_it method path caller served =
      let same : AreSame method path caller (best path) (best_pattern (all_patterns rest) path) = by_best method path caller served (best path) refl in
      (same.0, secure_kind constraints method path caller ∙ same.1 ∙ sym (secure_kind rest method path caller))

-- ---- What a finding says.
same_from_test : (a b : ℕ) → (a == b) ≡ true → a ≡ b
same_from_test a b is = grind (arith, is)

module _ (constraints : List Constraint) (rules : Rules) (surroundings : Surroundings) (number : ℕ) where
  abbrev full : List Constraint
  full = compared surroundings constraints

  said_by : (f : Finding) → IsRight constraints rules surroundings f → says_overruled number f ≡ true → IsOverruled full rules number
  said_by (Overruled other) right is = (right.0, right.1, right.2 ∙ same_from_test other number is, right.3)
  said_by (Opened pattern methods one two) right is = absurd (false≢true is)
  said_by (Uncovered pattern methods) right is = absurd (false≢true is)
  said_by (ReadOtherwise pattern methods other) right is = absurd (false≢true is)
  said_by (HeadDiffers pattern get head) right is = absurd (false≢true is)
  said_by (Dead other) right is = absurd (false≢true is)
  said_by (DeadPattern other pattern) right is = absurd (false≢true is)
  said_by (Unreached other pattern) right is = absurd (false≢true is)
  said_by (Unserved other pattern) right is = absurd (false≢true is)
  said_by (Escaped other pattern) right is = absurd (false≢true is)
  said_by (LoginNeeds path) right is = absurd (false≢true is)
  said_by (UnknownRole other role) right is = absurd (false≢true is)
  said_by (UnheldRole role) right is = absurd (false≢true is)
  said_by (UnusedRole role) right is = absurd (false≢true is)

  said : CanonicalHasShape → list_any (says_overruled number) (findings_of constraints rules (table_of constraints rules) surroundings) ≡ true → IsOverruled full rules number
  said shapes some =
      let all : List Finding = findings_of constraints rules (table_of constraints rules) surroundings in
      found (IsOverruled full rules number) (says_overruled number) all some (λ k d within says. said_by (slice_index_or all k d) (findings_right shapes constraints rules surroundings k d within) says)

pub removable : CanonicalHasShape → BestExists → BestIsUnique → OverruledIsRemovable
removable shapes best_exists unique constraints rules surroundings constraint there alone some =
    let full : List Constraint = compared surroundings constraints in
    let it : IsOverruled full rules constraint.number = said constraints rules surroundings constraint.number shapes some in
    let same : it.0 ≡ constraint = alone it.0 it.1 it.2 in
    without_it best_exists unique full rules constraint alone
    (λ path pattern served best listed. subst (λ c. ChangesNothing full rules c pattern) same (it.3 path pattern served best (ap (λ c. lists (patterns_in c) pattern) same ∙ listed)))
