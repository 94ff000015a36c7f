use Rattle.std.proofs.Common.{List, ℕ, map, ap, ◌∙◌}
use Rattle.std.specs.Borrow.{Bor}
use Rattle.sv_constraints.specs.declared.constraint.Constraint.{Constraint}
use Rattle.sv_policy.specs.Uncovered.{rising}
use Rattle.sv_audit.proofs.IndexLemmas.{found_covering}
use Rattle.sv_audit.proofs.method_index.method_index.Goals as goal

pub returns : goal.returns
returns c =
    let names_are = c.in_ok-names-2.ensures ∙ ap (λ (names : List (Bor (List ℕ))). rising (map (λ name. name.now) names)) c.as_slice.ensures.value ∙ ap rising c.in_ok-names.ensures in
    record {
      names = names_are;
      members = λ method named.
          found_covering c.args.pattern.now method (map (λ (member : Bor Constraint). member.now) c.args.members.now) (map (λ (member : Bor Constraint). member.now) c.in_ok-copied.field-0.items)
          (map (λ (name : Bor (List ℕ)). name.now) c.as_slice-2.result.now) c.in_ok-by_name.by_name c.in_ok-by_name.ensures
          (ap (map (λ (name : Bor (List ℕ)). name.now)) c.as_slice-2.ensures.value ∙ names_are) named (ap (map (λ (member : Bor Constraint). member.now)) c.in_ok-copied.ensures);
    }
