use Rattle.std.proofs.Common.{arith, ◌≡◌, length, [], ◌∷◌, ap, ◌∙◌, append_assoc, length-append}
use Rattle.std.specs.Vec.Iter.{into_iter_items}
use Rattle.sv_realm.proofs.Numbered.{accounts_more}
use Rattle.sv_realm.proofs.account.accounts_of.Goals as goal

pub overflow_cast-number : goal.overflow_cast-number
overflow_cast-number c =
    let at = c.loop-user in
    let steps : into_iter_items at.user-iterator ≡ c.in-Some.user ∷ into_iter_items c.next.new.self = c.in-Some.ensures.steps.0 in
    let left = ap length steps in
    let all = simp length-append at (ap length at.invariant.0) in
    let known = c.args.users.ok.0 in
    let limit = c.requires in
    let here = c.len-number.ensures in
    let numbered = at.invariant.2 in
    omega arith

pub loop-user-preserved : goal.loop-user-preserved
loop-user-preserved c =
    let at = c.loop-user in
    let user = c.in-Some.user in
    let steps : into_iter_items at.user-iterator ≡ user ∷ into_iter_items c.next.new.self = c.in-Some.ensures.steps.0 in
    let place = c.len-number.ensures ∙ at.invariant.2 in (
      append_assoc at.yielded (user ∷ []) _ ∙ rw (← steps) at.invariant.0,
      c.in_ok-push.ensures.items ∙ accounts_more at.accounts.items c.new.result at.yielded user _ at.invariant.1 c.new.ensures place,
      c.in_ok-push.ensures.len ∙ rw length-append (omega (arith, at.invariant.2)),
    )
