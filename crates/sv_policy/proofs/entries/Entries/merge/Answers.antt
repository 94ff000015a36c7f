use Rattle.std.proofs.Common.{ap, ◌∙◌, map}
use Rattle.sv_policy.proofs.MergedWhole.{whole}
use Rattle.sv_policy.specs.Entries.{entry_in}
use Rattle.sv_policy.proofs.entries.Entries.merge.Goals as goal

pub returns : goal.returns
returns c =
    whole c.args.rules.now c.args.pattern.now (map (λ member. member.now) c.args.members.now) (entry_in c.loop-name.methods) c.in_ok-rest.rest
    c.in_ok-rest.ensures
    c.as_slice-name-items.result.now c.loop-name.name-index c.loop-name-test.false
    (ap (map (λ name. name.now)) c.as_slice-name-items.ensures.value ∙ c.in_ok-names.ensures)
    c.loop-name.invariant
