use Rattle.std.proofs.Common.{rules}
use Rattle.sv_report.specs.FindingJson.{finding_value}
use Rattle.sv_report.proofs.JsonTexts.{listed}
use Rattle.sv_report.proofs.json_text.push_findings.Goals as goal

pub returns : goal.returns
returns c =
    listed (finding_value c.args.context.now) c.in-Some.finding.now c.in-Some.others.now c.args.findings.now _ _ _ _ _ (search rules) c.in_ok-push_str-2.ensures.bytes c.in_ok-push_finding.ensures
    c.in_ok-push_other_findings.ensures c.in_ok-push_str-3.ensures.bytes
