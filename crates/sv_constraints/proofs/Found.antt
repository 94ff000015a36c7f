-- The findings for the covering constraints decide as the table does.
use Rattle.std.proofs.Common.{◌≡◌, ℕ, ◌+◌, ◌<◌, true, false, List, [], ◌∷◌, ◌++◌, length, take, get_or, append-nil, Option, Some, ap, sym, ◌∙◌}
use Rattle.std.specs.Prelude.{cond}
use Rattle.std.proofs.lemmas.List.Elements.{filter_more}
use Rattle.sv_mapping.specs.BestMatch.{best_pattern}
use Rattle.sv_realm.specs.declared.caller.Caller.{Caller}
use Rattle.sv_constraints.proofs.Least.{least_number_more, least_where_more, any_more, some_where, none_number}
use Rattle.sv_constraints.specs.Covering.{covers, covering, all_patterns}
use Rattle.sv_constraints.specs.declared.owned_decision.OwnedDecision.{OwnedDecision}
use Rattle.sv_constraints.specs.Findings.{findings_of, with_one, decided}
use Rattle.sv_constraints.specs.Verdict.{precludes, permits_plain, is_open, admits_caller, verdict, verdict_at}
use Rattle.sv_constraints.specs.declared.constraint.Constraint.{Constraint}
use Rattle.sv_constraints.specs.declared.findings.Findings.{Findings}
use Rattle.sv_constraints.specs.declared.constraint.Rules.{Rules}

-- The findings after one more constraint.
pub found_more : (rules : Rules) (caller : Option Caller) (members : List Constraint) (c : Constraint) → with_one rules caller c (findings_of rules caller members) ≡ findings_of rules caller (members ++ c ∷ [])
found_more rules caller members c =
    cc (least_number_more members c, least_where_more precludes members c, any_more permits_plain members c, least_where_more is_open members c, least_where_more (admits_caller rules caller) members c)

-- The covering constraints after one more constraint, which covers the request or does not.
covering_more : (constraints : List Constraint) (pattern method : List ℕ) (i : ℕ) (c : Constraint) → i < length constraints → c ≡ get_or constraints i c → covering (take (i + 1) constraints) (Some pattern) method ≡ covering (take i constraints) (Some pattern) method ++ cond (covers c pattern method) (c ∷ []) []
covering_more constraints pattern method i c within at_i =
    filter_more (λ constraint. covers constraint pattern method) constraints i c within
    ∙ ap (λ x. covering (take i constraints) (Some pattern) method ++ cond (covers x pattern method) (x ∷ []) []) (sym at_i)

module _ (rules : Rules) (caller : Option Caller) (constraints : List Constraint) (pattern method : List ℕ) (i : ℕ) (c : Constraint) (found : Findings) where
  -- The findings after one more constraint that covers the request, or that does not.
  pub found_covered : i < length constraints → c ≡ get_or constraints i c → covers c pattern method ≡ true → found ≡ findings_of rules caller (covering (take i constraints) (Some pattern) method) → with_one rules caller c found ≡ findings_of rules caller (covering (take (i + 1) constraints) (Some pattern) method)
  found_covered within at_i is_covered is_found =
      ap (with_one rules caller c) is_found
      ∙ found_more rules caller (covering (take i constraints) (Some pattern) method) c
      ∙ ap (λ covered. findings_of rules caller (covering (take i constraints) (Some pattern) method ++ cond covered (c ∷ []) [])) (sym is_covered)
      ∙ ap (findings_of rules caller) (sym (covering_more constraints pattern method i c within at_i))

  pub found_uncovered : i < length constraints → c ≡ get_or constraints i c → covers c pattern method ≡ false → found ≡ findings_of rules caller (covering (take i constraints) (Some pattern) method) → found ≡ findings_of rules caller (covering (take (i + 1) constraints) (Some pattern) method)
  found_uncovered within at_i is_uncovered is_found =
      is_found
      ∙ ap (findings_of rules caller) (sym (append-nil (covering (take i constraints) (Some pattern) method)))
      ∙ ap (λ covered. findings_of rules caller (covering (take i constraints) (Some pattern) method ++ cond covered (c ∷ []) [])) (sym is_uncovered)
      ∙ ap (findings_of rules caller) (sym (covering_more constraints pattern method i c within at_i))

-- The table applied to the findings gives the same as the table applied to the constraints.
decided_at : (rules : Rules) (caller : Option Caller) (pattern : List ℕ) (members : List Constraint) → decided rules caller (Some pattern) (findings_of rules caller members) ≡ verdict_at rules caller (Some pattern) members
decided_at rules caller pattern members =
    rw (none_number members, some_where precludes members, some_where is_open members, some_where (admits_caller rules caller) members)

-- The findings for the constraints that cover a request at its best pattern give the verdict.
pub decided_is_verdict : (constraints : List Constraint) (rules : Rules) (method path : List ℕ) (caller : Option Caller) (pattern : List ℕ) (found : Findings) (decision : OwnedDecision) → Some pattern ≡ best_pattern (all_patterns constraints) path → found ≡ findings_of rules caller (covering constraints (Some pattern) method) → decision ≡ decided rules caller (Some pattern) found → decision ≡ verdict constraints rules method path caller
decided_is_verdict constraints rules method path caller pattern found decision best is_found is_decided =
    is_decided ∙ ap (decided rules caller (Some pattern)) is_found
    ∙ decided_at rules caller pattern (covering constraints (Some pattern) method)
    ∙ ap (λ p. verdict_at rules caller p (covering constraints p method)) best
