use Rattle.std.proofs.Common.{rules, ◌≡◌, [], MatchOption, map, subst}
use Rattle.sv_policy.specs.Groups.{members_in}
use Rattle.sv_policy.proofs.groups.Groups.on.Goals as goal

pub returns : goal.returns
returns c = λ constraints are.
    let found : MatchOption c.get.result (members_in c.args.self.now.members c.args.text.now ≡ []) (λ members. map (λ member. member.now) members.now.items ≡ members_in c.args.self.now.members c.args.text.now) = search rules in
    subst (λ its_members. MatchOption c.get.result (its_members ≡ []) (λ members. map (λ member. member.now) members.now.items ≡ its_members)) (are.members c.args.text.now) found
