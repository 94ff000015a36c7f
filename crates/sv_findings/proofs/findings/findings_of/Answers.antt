use Rattle.std.proofs.Common.{map, ap, ◌∙◌}
use Rattle.std.specs.Borrow.{Bor}
use Rattle.sv_audit.specs.declared.rows.Row.{Row}
use Rattle.sv_findings.proofs.Joined.{all_joined}
use Rattle.sv_findings.proofs.findings.findings_of.Goals as goal

pub returns : goal.returns
returns c =
    c.from_vec.ensures
    ∙ all_joined c.args.constraints.now c.args.rules.now c.args.table.now c.args.surroundings.now c.in_ok-reaches.reaches c.as_slice.result.now c.as_slice-5.result.now c.as_str.result.now c.as_slice-2.result.now
    c.in_ok-rows.rows.all.now (map (λ (row : Bor Row). row.now) c.as_slice-3.result.now) (map (λ (row : Bor Row). row.now) c.as_slice-4.result.now) c.new-findings.result.items c.push_by_row.new.findings.items c.push_by_pattern.new.findings.items c.push_by_page.new.findings.items c.push_by_role.new.findings.items c.in_ok-reaches.ensures c.as_slice.ensures c.as_str.ensures
    c.as_slice-2.ensures c.in_ok-rows.ensures.0 (ap (map (λ (row : Bor Row). row.now)) c.as_slice-3.ensures.value ∙ c.in_ok-rows.ensures.1) (ap (map (λ (row : Bor Row). row.now)) c.as_slice-4.ensures.value ∙ c.in_ok-rows.ensures.1) c.new-findings.ensures.items c.in_ok-push_by_row.ensures c.in_ok-push_by_pattern.ensures c.in_ok-push_by_page.ensures c.as_slice-5.ensures c.in_ok-push_by_role.ensures
