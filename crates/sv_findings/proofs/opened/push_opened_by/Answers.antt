use Rattle.std.proofs.Common.{◌≡◌, ◌++◌, List, map, ap, sym, rules, ◌∙◌}
use Rattle.std.specs.Borrow.{Bor}
use Rattle.sv_constraints.specs.Verdict.{is_open}
use Rattle.sv_constraints.specs.declared.constraint.Constraint.{Constraint}
use Rattle.sv_policy.proofs.Listed.{any_seen}
use Rattle.sv_findings.proofs.OpenedSteps.{nothing_pushed, nothing_unrestricted, on_ok_map, opened_focused}
use Rattle.sv_findings.specs.Opened.{is_restricted, opened_on}
use Rattle.sv_findings.proofs.opened.push_opened_by.Goals as goal

abbrev seen : List (Bor Constraint) → List Constraint
seen members = map (λ (member : Bor Constraint). member.now) members

pub returns-then-not-is_any_open : goal.returns-then-not-is_any_open
returns-then-not-is_any_open c =
    nothing_pushed (seen c.args.members.now) c.args.pattern.now (any_seen is_open (λ (member : Bor Constraint). member.now) c.args.members.now ∙ sym c.is_any_open.ensures ∙ c.if-not-is_any_open.true) c.args.findings.now.items

pub returns-then-not-is_any_restricted : goal.returns-then-not-is_any_restricted
returns-then-not-is_any_restricted c =
    nothing_unrestricted (seen c.args.members.now) c.args.pattern.now (any_seen is_restricted (λ (member : Bor Constraint). member.now) c.args.members.now ∙ sym c.is_any_restricted.ensures ∙ c.if-not-is_any_restricted.true) c.args.findings.now.items

pub returns : goal.returns
returns c =
    let are : seen c.in_ok-borrowed.borrowed.items ≡ c.in_ok-copies.copies.items = search rules in
    on_ok_map c.push_opened_on.result
    (λ pushed. pushed ∙ ap (λ more. c.args.findings.now.items ++ more)
    (ap (λ members. opened_on members c.args.pattern.now) (ap seen c.as_slice.ensures.value ∙ are ∙ c.in_ok-copies.ensures) ∙ opened_focused (seen c.args.members.now) c.args.pattern.now))
    c.push_opened_on.ensures
