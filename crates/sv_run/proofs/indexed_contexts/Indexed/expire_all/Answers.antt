use Rattle.std.proofs.Common.{◌≡◌, length, subst, sym, arith}
use Rattle.std.proofs.lemmas.List.{with_items_is}
use Rattle.std.specs.Vec.{with_items}
use Rattle.sv_run.specs.Events.{ExpiresAll, MovesAll}
use Rattle.sv_run.proofs.Contexts.{index_kept, moves_lent}
use Rattle.sv_run.proofs.indexed_contexts.Indexed.expire_all.Goals as goal

pub invariant_of-self : goal.invariant_of-self
invariant_of-self g c =
    let held = c.self.inside.contexts in
    let all : length c.expire_all.new.contexts ≡ held.len = omega (arith, c.expire_all.auto.contexts, c.as_mut_slice.ensures.len) in
    index_kept g.C.Context.conduct held c.as_mut_slice.result.now c.expire_all.new.contexts all c.as_mut_slice.ensures.value
    g.C.HasContextPath.path_of g.met.C.Context.keeps_path c.self.inside.index c.self.invariant c.expire_all.ensures.moves

pub returns-clause-moves : goal.returns-clause-moves
returns-clause-moves g c =
    let conduct = g.C.Context.conduct in
    let held = c.self.inside.contexts in
    let all : length c.expire_all.new.contexts ≡ held.len = omega (arith, c.expire_all.auto.contexts, c.as_mut_slice.ensures.len) in
    subst (λ before. MovesAll conduct before (with_items held c.expire_all.new.contexts).items) c.self.view_is
    (moves_lent conduct held c.as_mut_slice.result.now c.expire_all.new.contexts all c.as_mut_slice.ensures.value c.expire_all.ensures.moves)

pub returns-clause-expires : goal.returns-clause-expires
returns-clause-expires g c =
    let conduct = g.C.Context.conduct in
    let held = c.self.inside.contexts in
    let settled = c.expire_all.new.contexts in
    let all : length settled ≡ held.len = omega (arith, c.expire_all.auto.contexts, c.as_mut_slice.ensures.len) in
    let ended = c.expire_all.ensures.expires in (
      ended.0,
      subst (λ after. ExpiresAll conduct c.args.self.now c.args.moment ended.0 after) (sym (with_items_is held settled all))
          (subst (λ before. ExpiresAll conduct before c.args.moment ended.0 settled) c.self.view_is
          (subst (λ before. ExpiresAll conduct before c.args.moment ended.0 settled) c.as_mut_slice.ensures.value ended.1)),
      ended.2,
    )
