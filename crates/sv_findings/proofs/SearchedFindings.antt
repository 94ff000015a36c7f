-- Nothing is missed of what is not reported as not looked for.
use Rattle.std.proofs.lemmas.Bool.{false≢true, or_parts}
use Rattle.std.proofs.Common.{arith, ◌≡◌, ◌≤◌, ℕ, Bool, true, false, not, ◌&&◌, List, [], ◌∷◌, ◌++◌, length, refl, ap, sym, ◌∙◌, cond, is_some}
use Rattle.std.specs.Prelude.{Contains, filter, nat_lt}
use Rattle.std.specs.List.{flat_map, list_any}
use Rattle.std.specs.Option.{option_map_or}
use Rattle.std.specs.Str.{bytes_eq}
use Rattle.sv_constraints.specs.Covering.{all_patterns, lists, patterns_in}
use Rattle.sv_constraints.specs.declared.constraint.Constraint.{Constraint}
use Rattle.sv_policy.proofs.Listed.{any_seen}
use Rattle.sv_policy.proofs.Steps.{any_of_joined}
use Rattle.sv_policy.specs.Covering.{named_methods}
use Rattle.sv_policy.specs.Patterns.{different, lists_pattern}
use Rattle.sv_policy.specs.Uncovered.{rising}
use Rattle.sv_audit.proofs.Found.{any_of}
use Rattle.sv_audit.proofs.Made.{named_of_all}
use Rattle.sv_overruled.specs.declared.overruled.TheConstants.{MAX_COMPARED_AT_PATTERN}
use Rattle.sv_findings.proofs.FoundFindings.{among_not_served, once_any, overruled_found}
use Rattle.sv_findings.proofs.OpenedLemmas.{contained}
use Rattle.sv_findings.proofs.OverruledLemmas.{no_from}
use Rattle.sv_findings.specs.Dead.{decides_nothing}
use Rattle.sv_findings.specs.FindingLaws.{AreFew, SearchedIsFound, UnservedIsFound, says_unserved}
use Rattle.sv_findings.specs.Overruled.{compared}
use Rattle.sv_findings.specs.Unsearched.{are_too_many, has_uncompared, is_overruled_kind, is_uncompared, is_unserved_kind}
use Rattle.sv_findings.specs.Unserved.{are_many, is_unserved, reached_files, unserved_among, unserved_in}
use Rattle.sv_findings.specs.declared.finding.Finding.{Finding}
use Rattle.sv_findings.specs.declared.finding.Finding.TheVariants as finding
use Rattle.sv_findings.specs.declared.unsearched.Unsearched.TheVariants.{Overruled, Unserved}

-- ---- What is reported as not looked for.
none_uncompared : (over many : Bool) → list_any is_overruled_kind (cond over (Overruled ∷ []) [] ++ cond many (Unserved ∷ []) []) ≡ false → over ≡ false
none_uncompared true many is = absurd (false≢true (sym is))
none_uncompared false many is = refl

none_many : (over many : Bool) → list_any is_unserved_kind (cond over (Overruled ∷ []) [] ++ cond many (Unserved ∷ []) []) ≡ false → many ≡ false
none_many true true is = absurd (false≢true (sym is))
none_many false true is = absurd (false≢true (sym is))
none_many over false is = refl

-- ---- Overruled constraints.
not_above : (most n : ℕ) → nat_lt most n ≡ false → n ≤ most
not_above most n is = grind (arith, is)

few_at : (nothing many : Bool) → nothing ≡ false → (not nothing && many) ≡ false → many ≡ false
few_at true many is none = absurd (false≢true (sym is))
few_at false many is none = none

module _ (constraints : List Constraint) (c : Constraint) (there : Contains constraints c) (none : has_uncompared constraints ≡ false) where
  abbrev here : List ℕ → List Constraint
  here pattern = filter (λ constraint. lists_pattern constraint pattern) constraints

  listed_by_all : (pattern : List ℕ) → lists (patterns_in c) pattern ≡ true → lists (all_patterns constraints) pattern ≡ true
  listed_by_all pattern listed = any_of_joined (λ text. bytes_eq text pattern) patterns_in constraints ∙ contained (λ (x : Constraint). lists (patterns_in x) pattern) constraints c there listed

  compared_at : (pattern : List ℕ) → lists (patterns_in c) pattern ≡ true → is_uncompared constraints (all_patterns constraints) pattern ≡ false
  compared_at pattern listed =
      no_from (is_uncompared constraints (all_patterns constraints) pattern)
      (λ is. false≢true (sym (any_of (is_uncompared constraints (all_patterns constraints)) (all_patterns constraints) pattern none is) ∙ listed_by_all pattern listed))

  are_few : (pattern : List ℕ) → lists (patterns_in c) pattern ≡ true → decides_nothing (all_patterns constraints) pattern ≡ false → AreFew constraints pattern
  are_few pattern listed some =
      let names : ℕ = length (rising (named_methods (here pattern) pattern)) in
      let few : are_too_many (here pattern) pattern ≡ false = few_at (decides_nothing (all_patterns constraints) pattern) (are_too_many (here pattern) pattern) some (compared_at pattern listed) in
      let parts : (nat_lt MAX_COMPARED_AT_PATTERN (length (here pattern)) ≡ false) × (nat_lt MAX_COMPARED_AT_PATTERN names ≡ false) = or_parts (nat_lt MAX_COMPARED_AT_PATTERN (length (here pattern))) (nat_lt MAX_COMPARED_AT_PATTERN names) few in (
        not_above MAX_COMPARED_AT_PATTERN (length (here pattern)) parts.0,
        not_above MAX_COMPARED_AT_PATTERN (length (rising (named_methods constraints pattern)))
            (sym (ap (λ named. nat_lt MAX_COMPARED_AT_PATTERN (length (rising named))) (named_of_all pattern constraints)) ∙ parts.1),
      )

pub searched_found : SearchedIsFound
searched_found constraints rules surroundings c none there alive each =
    let full : List Constraint = compared surroundings constraints in
    let compared_all : has_uncompared full ≡ false = none_uncompared (has_uncompared full) (is_some surroundings.files && are_many constraints) none in
    overruled_found constraints rules surroundings c there alive (λ pattern listed some. (are_few full c there compared_all pattern listed some, each pattern listed some))

-- ---- Unserved patterns.
pub unserved_found : UnservedIsFound
unserved_found constraints rules surroundings c pattern files known none there listed out =
    let is_out : List ℕ → Bool = is_unserved surroundings.contexts surroundings.path (all_patterns constraints) surroundings.servlets (reached_files surroundings.contexts surroundings.path files) in
    let says : Finding → Bool = says_unserved c.number pattern in
    let few : are_many constraints ≡ false =
    sym (ap (λ its. is_some its && are_many constraints) known) ∙ none_many (has_uncompared (compared surroundings constraints)) (is_some surroundings.files && are_many constraints) none in
    among_not_served constraints rules surroundings says
    (ap (λ its. list_any says (option_map_or (unserved_among surroundings.contexts surroundings.path surroundings.servlets constraints) its [])) known
    ∙ ap (λ many. list_any says (cond many [] (flat_map (unserved_in is_out) constraints))) few ∙ any_of_joined says (unserved_in is_out) constraints
    ∙ contained (λ (x : Constraint). list_any says (unserved_in is_out x)) constraints c there
    (any_seen says (finding.Unserved c.number) (different (filter is_out (patterns_in c)))
    ∙ once_any c.number is_out (patterns_in c) pattern listed out))
