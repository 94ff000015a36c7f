-- Dropping the transport requirements changes only verdicts about the transport.
use Rattle.std.proofs.lemmas.Bool.{false≢true}
use Rattle.std.proofs.Common.{◌≡◌, ℕ, Bool, true, false, not, List, [], ◌∷◌, ◌++◌, length, refl, ap, sym, ◌∙◌, cond, min, Option, None, Some, is_none, ◌==◌}
use Rattle.std.specs.Prelude.{filter}
use Rattle.std.specs.List.{list_any, reduce}
use Rattle.sv_mapping.specs.BestMatch.{best_pattern}
use Rattle.sv_realm.specs.declared.caller.Caller.{Caller}
use Rattle.sv_constraints.specs.Covering.{all_patterns, covering, covers, patterns_in}
use Rattle.sv_constraints.specs.Decision.{why_of}
use Rattle.sv_constraints.specs.Verdict.{admits_caller, because, is_open, least_number, least_where, permits_plain, precludes, uncovered, verdict, verdict_at}
use Rattle.sv_constraints.specs.declared.cause.Cause.TheVariants as cause
use Rattle.sv_constraints.specs.declared.constraint.Constraint.{Constraint}
use Rattle.sv_constraints.specs.declared.constraint.Rules.{Rules}
use Rattle.sv_constraints.specs.declared.owned_decision.OwnedDecision.{OwnedDecision}
use Rattle.sv_constraints.specs.declared.owned_decision.OwnedDecision.TheVariants.{Open, Login, Denied}
use Rattle.sv_policy.proofs.Listed.{any_seen, length_seen}
use Rattle.sv_audit.proofs.Filters.{filter_map, map_twice}
use Rattle.sv_audit.specs.Secure.{OnlyTransportChanges, secure, secured}

same_patterns : (constraints : List Constraint) → all_patterns (secure constraints) ≡ all_patterns constraints
same_patterns [] = refl
same_patterns (c ∷ constraints) = ap (λ rest. patterns_in c ++ rest) (same_patterns constraints)

same_covering : (constraints : List Constraint) (pattern : Option (List ℕ)) (method : List ℕ) → covering (secure constraints) pattern method ≡ secure (covering constraints pattern method)
same_covering constraints None method = refl
same_covering constraints (Some pattern) method = filter_map secured (λ c. covers c pattern method) constraints

-- The least number of the constraints that pass a test of all but the transport.
same_least : (members : List Constraint) → least_number (secure members) ≡ least_number members
same_least members = ap (reduce min) (map_twice secured (λ (c : Constraint). c.number) members)

least_passing : (test : Constraint → Bool) (members : List Constraint) → least_number (filter test (secure members)) ≡ least_where (λ c. test (secured c)) members
least_passing test members = ap least_number (filter_map secured test members) ∙ same_least (filter (λ c. test (secured c)) members)

some_plain : (members : List Constraint) → (length members == 0) ≡ false → list_any permits_plain (secure members) ≡ true
some_plain [] some = absurd (false≢true (sym some ∙ none))
  where
    none : (length {A = Constraint} [] == 0) ≡ true
    none = refl
some_plain (c ∷ members) some = refl

abbrev causes_transport : OwnedDecision → Type 0
causes_transport decision = (why_of decision).cause ≡ cause.Transport

-- The cases with another test for the transport: the others stay, and no verdict is about the transport.
kept_at : (empty bars carries : Bool) (x y z rest : OwnedDecision) → (empty ≡ false → carries ≡ true) → (blocks : Bool) → ¬ causes_transport (cond empty x (cond bars y (cond blocks z rest))) → causes_transport z
    → cond empty x (cond bars y (cond (not carries) z rest)) ≡ cond empty x (cond bars y (cond blocks z rest))
kept_at true bars carries x y z rest plain blocks other is = refl
kept_at false true carries x y z rest plain blocks other is = refl
kept_at false false carries x y z rest plain true other is = absurd (other is)
kept_at false false carries x y z rest plain false other is = ap (λ b. cond (not b) z rest) (plain refl)

never_at : (empty bars carries : Bool) (x y z rest : OwnedDecision) → (empty ≡ false → carries ≡ true) → ¬ causes_transport x → ¬ causes_transport y → ¬ causes_transport rest → ¬ causes_transport (cond empty x (cond bars y (cond (not carries) z rest)))
never_at true bars carries x y z rest plain first second last = first
never_at false true carries x y z rest plain first second last = second
never_at false false true x y z rest plain first second last = last
never_at false false false x y z rest plain first second last = absurd (false≢true (plain refl))

module _ (rules : Rules) (caller : Option Caller) (pattern : List ℕ) where
  abbrev first : OwnedDecision
  first = uncovered rules (because (Some pattern) None cause.Uncovered)

  abbrev second : Option ℕ → OwnedDecision
  second number = Denied (because (Some pattern) number cause.Precluded)

  abbrev third : Option ℕ → OwnedDecision
  third number = Denied (because (Some pattern) number cause.Transport)

  abbrev others : Bool → Bool → Option ℕ → Option ℕ → Option ℕ → OwnedDecision
  others opens admits open_number number admit_number =
      cond opens (Open (because (Some pattern) open_number cause.Unauthenticated))
      (cond (is_none caller) (Login (because (Some pattern) number cause.NeedsCaller))
      (cond admits (Open (because (Some pattern) admit_number cause.Role)) (Denied (because (Some pattern) number cause.NoRole))))

  abbrev others_of : List Constraint → OwnedDecision
  others_of members = others (list_any is_open members) (list_any (admits_caller rules caller) members) (least_where is_open members) (least_number members) (least_where (admits_caller rules caller) members)

  secure_at : (members : List Constraint) → verdict_at rules caller (Some pattern) (secure members)
      ≡ cond (length members == 0) first (cond (list_any precludes members) (second (least_where precludes members)) (cond (not (list_any permits_plain (secure members))) (third (least_number members)) (others_of members)))
  secure_at members =
      rw (
        length_seen secured members,
        any_seen precludes secured members,
        any_seen is_open secured members,
        any_seen (admits_caller rules caller) secured members,
        least_passing precludes members,
        least_passing is_open members,
        least_passing (admits_caller rules caller) members,
        same_least members,
      )

  first_not : (denied : Bool) → ¬ causes_transport (cond denied (Denied (because (Some pattern) None cause.Uncovered)) (Open (because (Some pattern) None cause.Uncovered)))
  first_not true e = cc
  first_not false e = cc

  others_not_at : (opens unknown admits : Bool) (open_number number admit_number : Option ℕ) → ¬ causes_transport (cond opens (Open (because (Some pattern) open_number cause.Unauthenticated))
      (cond unknown (Login (because (Some pattern) number cause.NeedsCaller)) (cond admits (Open (because (Some pattern) admit_number cause.Role)) (Denied (because (Some pattern) number cause.NoRole)))))
  others_not_at true unknown admits open_number number admit_number e = cc
  others_not_at false true admits open_number number admit_number e = cc
  others_not_at false false true open_number number admit_number e = cc
  others_not_at false false false open_number number admit_number e = cc

  second_not : (number : Option ℕ) → ¬ causes_transport (second number)
  second_not number e = cc

  kept_members : (members : List Constraint) → ¬ causes_transport (verdict_at rules caller (Some pattern) members) → verdict_at rules caller (Some pattern) (secure members) ≡ verdict_at rules caller (Some pattern) members
  kept_members members other =
      secure_at members
      ∙ kept_at (length members == 0) (list_any precludes members) (list_any permits_plain (secure members)) first (second (least_where precludes members)) (third (least_number members)) (others_of members)
      (some_plain members) (not (list_any permits_plain members)) other refl

  never_members : (members : List Constraint) → ¬ causes_transport (verdict_at rules caller (Some pattern) (secure members))
  never_members members is =
      never_at (length members == 0) (list_any precludes members) (list_any permits_plain (secure members)) first (second (least_where precludes members)) (third (least_number members)) (others_of members)
      (some_plain members) (first_not rules.deny_uncovered) (second_not (least_where precludes members))
      (others_not_at (list_any is_open members) (is_none caller) (list_any (admits_caller rules caller) members) (least_where is_open members) (least_number members) (least_where (admits_caller rules caller) members))
      (ap (λ decision. (why_of decision).cause) (sym (secure_at members)) ∙ is)

kept_any : (rules : Rules) (caller : Option Caller) (pattern : Option (List ℕ)) (constraints : List Constraint) (method : List ℕ) → ¬ causes_transport (verdict_at rules caller pattern (covering constraints pattern method))
    → verdict_at rules caller pattern (secure (covering constraints pattern method)) ≡ verdict_at rules caller pattern (covering constraints pattern method)
kept_any rules caller None constraints method other = refl
kept_any rules caller (Some pattern) constraints method other = kept_members rules caller pattern (covering constraints (Some pattern) method) other

never_any : (rules : Rules) (caller : Option Caller) (pattern : Option (List ℕ)) (members : List Constraint) → ¬ causes_transport (verdict_at rules caller pattern (secure members))
never_any rules caller None members e = cc
never_any rules caller (Some pattern) members e = never_members rules caller pattern members e

secure_verdict : (constraints : List Constraint) (rules : Rules) (method path : List ℕ) (caller : Option Caller) → verdict (secure constraints) rules method path caller
    ≡ verdict_at rules caller (best_pattern (all_patterns constraints) path) (secure (covering constraints (best_pattern (all_patterns constraints) path) method))
secure_verdict constraints rules method path caller =
    ap (λ patterns. verdict_at rules caller (best_pattern patterns path) (covering (secure constraints) (best_pattern patterns path) method)) (same_patterns constraints)
    ∙ ap (verdict_at rules caller (best_pattern (all_patterns constraints) path)) (same_covering constraints (best_pattern (all_patterns constraints) path) method)

pub only_transport : OnlyTransportChanges
only_transport constraints rules method path caller = (
  λ other. secure_verdict constraints rules method path caller ∙ kept_any rules caller (best_pattern (all_patterns constraints) path) constraints method other,
  λ is. never_any rules caller (best_pattern (all_patterns constraints) path) (covering constraints (best_pattern (all_patterns constraints) path) method)
      (ap (λ decision. (why_of decision).cause) (sym (secure_verdict constraints rules method path caller)) ∙ is),
)
