use Rattle.std.proofs.Common.{rules, nat_lt, filter, ◌≡◌, subst}
use Rattle.std.proofs.lemmas.Fn.{filter_same}
use Rattle.sv_policy.specs.Resuming.{Resumes, append_each}
use Rattle.sv_policy.proofs.resuming.append_above.Goals as goal

pub returns : goal.returns
returns c =
    let above : c.retain.new.self.items ≡ filter (λ constraint. nat_lt c.args.last constraint.number) c.args.constraints.items =
    filter_same _ _ _ (λ x b f' k. search rules) _ _ c.retain.ensures.filtered in
    subst (λ items. Resumes (append_each c.args.policy items) c.append_each.result) above c.append_each.ensures
