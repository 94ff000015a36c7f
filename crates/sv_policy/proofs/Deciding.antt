-- The table of the best pattern decides.
use Rattle.std.proofs.Common.{subst, ◌≡◌, ℕ, List, map, refl, ap, sym, ◌∙◌, Option, Some, None}
use Rattle.std.specs.Prelude.{All, slice_get}
use Rattle.std.specs.Option.{option_and_then, option_map}
use Rattle.std.proofs.lemmas.Option.{get_or_from_slice_get, none-some, slice_get-map, slice_get_within}
use Rattle.sv_mapping.specs.BestMatch.{best_pattern}
use Rattle.sv_realm.specs.declared.caller.Caller.{Caller}
use Rattle.sv_constraints.specs.Covering.{all_patterns, covering}
use Rattle.sv_constraints.specs.declared.constraint.Constraint.{Constraint}
use Rattle.sv_constraints.specs.declared.constraint.Rules.{Rules}
use Rattle.sv_constraints.specs.declared.findings.Findings.{Findings}
use Rattle.sv_constraints.specs.declared.owned_decision.OwnedDecision.{OwnedDecision}
use Rattle.sv_constraints.specs.Findings.{decided, findings_of}
use Rattle.sv_constraints.specs.Laws.{FindingsDecide}
use Rattle.sv_constraints.specs.Verdict.{verdict, verdict_at}
use Rattle.sv_policy.specs.Table.{IsTable}
use Rattle.sv_policy.specs.declared.table.Table.{Table}
use Rattle.sv_policy.specs.Compiled.{AreCompiled}
use Rattle.sv_policy.proofs.Whole.{seen_twice}
use Rattle.sv_policy.specs.Patterns.{BestIsOfTexts}

at_place : (tables : List Table) (place : Option ℕ) → option_and_then (λ at. slice_get (map (λ t. t.pattern) tables) at) place ≡ option_map (λ (t : Table). t.pattern) (option_and_then (λ at. slice_get tables at) place)
at_place tables None = refl
at_place tables (Some k) = slice_get-map (λ t. t.pattern) tables k

-- The pattern of the table at the index that a lookup returns is the best one.
pub best_of_tables : BestIsOfTexts → (rules : Rules) (constraints : List Constraint) (tables : List Table) (path : List ℕ) (place : Option ℕ) (found : Option Table) → AreCompiled rules constraints tables
    → option_and_then (λ at. slice_get (map (λ t. t.pattern) tables) at) place ≡ best_pattern (map (λ t. t.pattern) tables) path → found ≡ option_and_then (λ at. slice_get tables at) place
    → option_map (λ (t : Table). t.pattern) found ≡ best_pattern (all_patterns constraints) path
best_of_tables of_texts rules constraints tables path place found are looked is =
    ap (option_map (λ (t : Table). t.pattern)) is ∙ sym (at_place tables place) ∙ looked
    ∙ of_texts (map (λ t. t.pattern) tables) (all_patterns constraints) path are.texts

pub all_at : (P : Table → Type 0) (tables : List Table) (k : ℕ) (table : Table) → All P tables → Some table ≡ slice_get tables k → P table
all_at P tables k table all at = subst P (get_or_from_slice_get tables k table table (sym at)) (all k table (slice_get_within tables k table (sym at)))

-- The table at that index is correct.
pub whole_at : (rules : Rules) (constraints : List Constraint) (tables : List Table) (place : Option ℕ) (table : Table) → AreCompiled rules constraints tables → Some table ≡ option_and_then (λ at. slice_get tables at) place → IsTable rules constraints table
whole_at rules constraints tables None table are at = absurd (none-some table (sym at))
whole_at rules constraints tables (Some k) table are at = all_at (IsTable rules constraints) tables k table are.whole at

-- The result of a lookup in the index of shared tables.
pub looked_up : {A : Type 0} → BestIsOfTexts → (value : A → Table) (rules : Rules) (constraints : List Constraint) (shared slice : List A) (index : List (List ℕ)) (path : List ℕ) (place : Option ℕ) (found : Option Table)
    → AreCompiled rules constraints (map value shared) → index ≡ map (λ x. (value x).pattern) shared → slice ≡ shared
    → option_and_then (λ at. slice_get index at) place ≡ best_pattern index path → found ≡ option_and_then (λ at. slice_get (map value slice) at) place
    → option_map (λ (t : Table). t.pattern) found ≡ best_pattern (all_patterns constraints) path
looked_up of_texts value rules constraints shared slice index path place found are indexed sliced looked is =
    best_of_tables of_texts rules constraints (map value shared) path place found are
    (subst (λ texts. option_and_then (λ at. slice_get texts at) place ≡ best_pattern texts path) (indexed ∙ sym (seen_twice value (λ t. t.pattern) shared)) looked)
    (is ∙ ap (λ xs. option_and_then (λ at. slice_get (map value xs) at) place) sliced)

-- The verdict if no pattern matches.
pub no_pattern : (constraints : List Constraint) (rules : Rules) (method path : List ℕ) (caller : Option Caller) → None ≡ best_pattern (all_patterns constraints) path → verdict_at rules caller None (covering constraints None method) ≡ verdict constraints rules method path caller
no_pattern constraints rules method path caller none = ap (λ p. verdict_at rules caller p (covering constraints p method)) none

-- The findings of a table decide.
pub decided_is_verdict : FindingsDecide → (constraints : List Constraint) (rules : Rules) (method path : List ℕ) (caller : Option Caller) (pattern : List ℕ) (found : Findings) (decision : OwnedDecision) → Some pattern ≡ best_pattern (all_patterns constraints) path
    → found ≡ findings_of rules caller (covering constraints (Some pattern) method) → decision ≡ decided rules caller (Some pattern) found → decision ≡ verdict constraints rules method path caller
decided_is_verdict decide constraints rules method path caller pattern found decision best is_found is_decided =
    is_decided ∙ ap (decided rules caller (Some pattern)) is_found ∙ decide constraints rules method path caller pattern best
