use Rattle.std.proofs.Common.{◌≡◌, ◌++◌, ◌∷◌, [], ℕ, List, IfOk, length, map, ap, subst, sym, ◌∙◌}
use Rattle.std.specs.Borrow.{Bor}
use Rattle.std.specs.Prelude.{filter, nat_lt}
use Rattle.sv_constraints.specs.Covering.{covers}
use Rattle.sv_constraints.specs.declared.constraint.Constraint.{Constraint}
use Rattle.sv_policy.proofs.Listed.{length_seen}
use Rattle.sv_policy.specs.Covering.{covers_unnamed}
use Rattle.sv_audit.proofs.Filters.{map_twice}
use Rattle.sv_overruled.specs.declared.overruled.TheConstants.{MAX_COMPARED_AT_PATTERN}
use Rattle.sv_overruled.proofs.OverruledSteps.{from_coverings, more, no_more, none_of_many_names, these}
use Rattle.sv_overruled.proofs.overruled.overruled_on.Goals as goal

abbrev texts : List (Bor (List ℕ)) → List (List ℕ)
texts names = map (λ (name : Bor (List ℕ)). name.now) names

abbrev number : List (List ℕ) → ℕ
number names = length names

pub returns-then-len-gt-MAX_COMPARED_AT_PATTERN : goal.returns-then-len-gt-MAX_COMPARED_AT_PATTERN
returns-then-len-gt-MAX_COMPARED_AT_PATTERN c =
    c.new.ensures.items
    ∙ none_of_many_names c.args.rules.now c.args.pattern.now (these c.args.members.now)
    (ap (nat_lt MAX_COMPARED_AT_PATTERN) (ap number (sym c.in_ok-names.ensures) ∙ length_seen (λ (name : Bor (List ℕ)). name.now) c.in_ok-names.names.items ∙ sym c.in_ok-names.names.ok.0 ∙ sym c.len.ensures)
    ∙ more MAX_COMPARED_AT_PATTERN c.len.result c.if-len-gt-MAX_COMPARED_AT_PATTERN.true)

abbrev by_name : List ℕ → List Constraint → List ℕ → List Constraint
by_name pattern members name = filter (λ member. covers member pattern name) members

abbrev unnamed : List ℕ → List Constraint → List Constraint
unnamed pattern members = filter (λ member. covers_unnamed member pattern) members

pub returns : goal.returns
returns c =
    subst (λ (them : List ℕ). IfOk c.overruled_by.result (λ numbers. numbers.items ≡ them))
    (from_coverings c.args.rules.now c.args.pattern.now c.args.members.now c.as_slice-2.result.now
    (ap (nat_lt MAX_COMPARED_AT_PATTERN) (ap number (sym c.in_ok-names.ensures) ∙ length_seen (λ (name : Bor (List ℕ)). name.now) c.in_ok-names.names.items ∙ sym c.in_ok-names.names.ok.0 ∙ sym c.len.ensures)
    ∙ no_more MAX_COMPARED_AT_PATTERN c.len.result c.if-len-gt-MAX_COMPARED_AT_PATTERN.false)
    (ap (map (λ covering. these covering.items)) c.as_slice-2.ensures.value
    ∙ c.in_ok-coverings.ensures
    ∙ ap (λ them. them ++ unnamed c.args.pattern.now (these c.args.members.now) ∷ [])
    (sym (map_twice (λ (name : Bor (List ℕ)). name.now) (by_name c.args.pattern.now (these c.args.members.now)) c.as_slice.result.now)
    ∙ ap (map (by_name c.args.pattern.now (these c.args.members.now))) (ap texts c.as_slice.ensures.value ∙ c.in_ok-names.ensures))))
    c.overruled_by.ensures
