use Rattle.std.proofs.Common.{ap, ◌∙◌, Some}
use Rattle.std.specs.Option.{option_copied}
use Rattle.sv_constraints.proofs.Found.{decided_is_verdict}
use Rattle.sv_constraints.specs.Covering.{covering}
use Rattle.sv_constraints.specs.Findings.{findings_of}
use Rattle.sv_constraints.proofs.decide.decide_plain.Goals as goal

pub returns : goal.returns
returns c =
    decided_is_verdict c.args.constraints.now c.args.rules.now c.args.method.now c.args.path.now (option_copied c.args.caller) c.in-Some.pattern.now c.gather-found.result _ (c.in-Some.ensures)
    (c.gather-found.ensures ∙ ap (λ text. findings_of c.args.rules.now (option_copied c.args.caller) (covering c.args.constraints.now (Some text) c.args.method.now)) c.text.ensures.value)
    c.decide.ensures
