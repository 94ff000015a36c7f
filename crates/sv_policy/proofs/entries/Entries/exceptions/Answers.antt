use Rattle.std.proofs.Common.{◌≡◌, subst, sym, ap, ◌∙◌, map, rules}
use Rattle.std.specs.Map.Iter.{deref_pair}
use Rattle.std.proofs.lemmas.Map.Iter.{iter_end}
use Rattle.sv_constraints.specs.Covering.{lists}
use Rattle.sv_policy.proofs.Excepted.{excepted, excepted_lists, excepted_rises}
use Rattle.sv_policy.specs.Uncovered.{IsRising}
use Rattle.sv_policy.proofs.entries.Entries.exceptions.Goals as goal

pub returns-clause-rising : goal.returns-clause-rising
returns-clause-rising c =
    let all : map deref_pair c.loop-name.yielded ≡ c.args.self.now.methods.entries = search (rules, iter_end) in
    subst IsRising (sym (c.from_vec.ensures ∙ c.loop-name.invariant ∙ ap (excepted c.args.self.now.rest) all))
    (excepted_rises c.args.self.now.rest c.args.self.now.methods.entries c.into_iter-name-iterator.ensures.into_iter_gives.5)

pub returns-clause-names : goal.returns-clause-names
returns-clause-names c = λ method.
    let all : map deref_pair c.loop-name.yielded ≡ c.args.self.now.methods.entries = search (rules, iter_end) in
    ap (λ names. lists names method) (c.from_vec.ensures ∙ c.loop-name.invariant ∙ ap (excepted c.args.self.now.rest) all)
    ∙ excepted_lists c.args.self.now.rest c.args.self.now.methods.entries method c.into_iter-name-iterator.ensures.into_iter_gives.5
