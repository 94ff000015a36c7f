use Rattle.std.proofs.Common.{refl, Some}
use Rattle.sv_constraints.proofs.Found.{decided_is_verdict}
use Rattle.sv_constraints.specs.Covering.{covering}
use Rattle.sv_constraints.specs.Findings.{decided, findings_of}
use Rattle.sv_constraints.proofs.laws.findings_decide.Goals as goal

pub returns : goal.returns
returns c = λ constraints rules method path caller pattern best.
    decided_is_verdict constraints rules method path caller pattern (findings_of rules caller (covering constraints (Some pattern) method))
    (decided rules caller (Some pattern) (findings_of rules caller (covering constraints (Some pattern) method))) best refl refl
