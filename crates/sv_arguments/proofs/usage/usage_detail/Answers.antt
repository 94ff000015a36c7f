use Rattle.std.proofs.Common.{Some, map, string_bytes, subst}
use Rattle.sv_arguments.proofs.Going.{behind_is}
use Rattle.sv_arguments.proofs.Lines.{audit_line, more_ok, run_line}
use Rattle.sv_arguments.specs.Topics.{IsCalled}
use Rattle.sv_arguments.specs.Values.{Finds}
use Rattle.sv_arguments.specs.declared.topic.Topic.{Topic}
use Rattle.sv_arguments.proofs.usage.usage_detail.Goals as goal

pub returns-in-Some-Run : goal.returns-in-Some-Run
returns-in-Some-Run c =
    more_ok _ _ c.run_detail.result
    (λ line says. run_line (map string_bytes c.args.arguments.now) (map string_bytes c.in-Some.rest.now) c.as_str.result.now line
    (behind_is string_bytes c.args.arguments.now c.in-Some.word.now c.in-Some.rest.now c.as_str.result.now c.in-Some.ensures.cases.0 c.as_str.ensures.value)
    (subst (λ (topic : Topic). Finds (IsCalled c.as_str.result.now) (Some topic)) c.in-Some-Run.field-0-is c.in-Some-Run.ensures) says)
    c.run_detail.ensures

pub returns-in-Some-Audit : goal.returns-in-Some-Audit
returns-in-Some-Audit c =
    more_ok _ _ c.audit_detail.result
    (λ line says. audit_line (map string_bytes c.args.arguments.now) (map string_bytes c.in-Some.rest.now) c.as_str.result.now line
    (behind_is string_bytes c.args.arguments.now c.in-Some.word.now c.in-Some.rest.now c.as_str.result.now c.in-Some.ensures.cases.0 c.as_str.ensures.value)
    (subst (λ (topic : Topic). Finds (IsCalled c.as_str.result.now) (Some topic)) c.in-Some-Audit.field-0-is c.in-Some-Audit.ensures) says)
    c.audit_detail.ensures
