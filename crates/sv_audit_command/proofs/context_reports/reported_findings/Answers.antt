use Rattle.std.specs.Vec.Iter.{into_iter_items}
use Rattle.sv_policy.specs.Groups.{IsGrouped}
use Rattle.sv_audit_command.specs.ContextReports.{reported_finding}
use Rattle.sv_audit_command.proofs.Collected.{one_more_made}
use Rattle.sv_audit_command.proofs.context_reports.reported_findings.Goals as goal

pub loop-finding-preserved : goal.loop-finding-preserved
loop-finding-preserved c =
    let are : IsGrouped c.args.context.now.constraints c.in_ok-groups.groups = rw (← c.as_slice.ensures) c.in_ok-groups.ensures in
    one_more_made (reported_finding c.args.context.now c.args.patterns.now c.args.accepted.now) c.loop-finding.reported.items c.push.new.self.items
    c.loop-finding.yielded (into_iter_items c.loop-finding.finding-iterator) (into_iter_items c.next.new.self) c.args.findings
    c.in-Some.finding c.in_ok-finding.finding c.loop-finding.invariant c.in-Some.ensures.steps.0 c.in_ok-push.ensures.items
    (c.in_ok-finding.ensures c.args.accepted.now are c.in_ok-lines.ensures)
