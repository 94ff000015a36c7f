use Rattle.std.proofs.Common.{ap, ◌∙◌}
use Rattle.sv_constraints.specs.Findings.{lesser}
use Rattle.std.specs.Bool.{then_some}
use Rattle.sv_policy.proofs.Admitted.{merged_more}
use Rattle.sv_policy.proofs.merged.Merged.add.Goals as goal

pub returns : goal.returns
returns c = λ members is.
    merged_more c.one_more_is_found.ensures.least c.one_more_is_found.ensures.found c.args.rules.now members c.args.constraint.now c.args.self.now _ is
    c.with-self.ensures
    (c.lesser-self.ensures ∙ ap (lesser c.args.self.now.everyone) (c.then_some-everyone.ensures ∙ ap (λ b. then_some b c.args.constraint.now.number) c.names_everyone.ensures))
    c.in_ok-name_all.ensures
