use Rattle.std.proofs.Common.{None, Some, refl, sym, ap, ◌∙◌, subst, add-one}
use Rattle.sv_dispatch.specs.Did.{seen}
use Rattle.sv_tree.specs.Site.{chosen, name_of}
use Rattle.sv_tree.specs.SiteOfDescriptor.{site_of}
use Rattle.sv_tree.specs.Tree.{Tree, Turn, Within}
use Rattle.sv_dispatch.proofs.Deeds.{Makes}
use Rattle.sv_dispatch.proofs.DispatchDeeds.{asked_lacks, dispatch_breaks, dispatch_ends, dispatch_lacks, responds_ended, responds_given, responds_filed, stepped_forward, within_breaks, within_ends, within_lacks, within_stops}
use Rattle.sv_dispatch.proofs.LeaveDeeds.{can_leave}
use Rattle.sv_dispatch.proofs.TurnDeeds.{calls_fall, serve_not, serve_so, turn_counted, turns_break, turns_end, turns_go_on}
use Rattle.sv_dispatch.proofs.dispatcher.+dispatching.Goals as goal

pub asked_for-returns-in-Err-NoMemory-clause-does : goal.asked_for-returns-in-Err-NoMemory-clause-does
asked_for-returns-in-Err-NoMemory-clause-does g t c =
    asked_lacks g.M.Machine.state g.M.Machine.frame g.M.Machine.ran (site_of c.args.site.now) c.args.room c.args.place c.args.kind c.args.text.now c.args.machine.now

pub stepped-returns-in-Forward-clause-does : goal.stepped-returns-in-Forward-clause-does
stepped-returns-in-Forward-clause-does g t c =
    stepped_forward g.M.Machine.state g.M.Machine.frame g.M.Machine.ran (site_of c.args.site.now) c.args.room c.args.place c.args.step
    c.args.machine.now c.asked_for.new.machine c.in-Forward.text c.asked_for.result c.lasting.result c.in-Forward.is c.asked_for.ensures.does c.lasting.ensures

pub turn-returns-in_default-clause-does : goal.turn-returns-in_default-clause-does
turn-returns-in_default-clause-does g t c =
    turn_counted g.M.Machine.state g.M.Machine.frame g.M.Machine.ran (site_of c.args.site.now) c.args.room c.args.place c.args.number
    c.args.machine.now c.service.new.self c.count.new.self None c.standing.result c.standing.ensures c.in-Serving.is (sym c.is_full.ensures ∙ c.if-is_full.false) c.count.ensures
    (serve_not g.M.Machine.state g.M.Machine.frame g.M.Machine.ran (site_of c.args.site.now) c.args.room c.args.place c.args.number
    c.count.new.self (c.requires.listeners ∙ sym (ap (λ f. f.listeners) c.count.ensures.stays)) c.service.new.self c.in_default.ensures)

pub turn-returns-in-Ok-clause-does : goal.turn-returns-in-Ok-clause-does
turn-returns-in-Ok-clause-does g t c =
    turn_counted g.M.Machine.state g.M.Machine.frame g.M.Machine.ran (site_of c.args.site.now) c.args.room c.args.place c.args.number
    c.args.machine.now c.stepped.new.machine c.count.new.self (seen c.stepped.result) c.standing.result c.standing.ensures c.in-Serving.is (sym c.is_full.ensures ∙ c.if-is_full.false) c.count.ensures
    (serve_so g.M.Machine.state g.M.Machine.frame g.M.Machine.ran (site_of c.args.site.now) c.args.room c.args.place c.args.number
    c.count.new.self (c.requires.listeners ∙ sym (ap (λ f. f.listeners) c.count.ensures.stays)) c.service.new.self c.stepped.new.machine c.in-Ok.step (seen c.stepped.result) c.in-Ok.ensures c.stepped.ensures.does)

pub turns-returns-in_default-clause-does : goal.turns-returns-in_default-clause-does
turns-returns-in_default-clause-does g t c =
    turns_break g.M.Machine.state g.M.Machine.frame g.M.Machine.ran (site_of c.args.site.now) c.args.room c.args.place
    c.args.machine.now c.loop-ended.machine c.turn.new.machine c.loop-ended.number c.loop-ended.invariant.0 (subst (λ t. Makes g.M.Machine.state g.M.Machine.frame g.M.Machine.ran (Turn (site_of t) c.args.room (Tree (site_of t) c.args.room) c.args.place c.loop-ended.number)
    c.loop-ended.machine c.turn.new.machine None) c.loop-ended.invariant.1 c.in_default.ensures.does)

pub turns-returns-in-Some-clause-does : goal.turns-returns-in-Some-clause-does
turns-returns-in-Some-clause-does g t c =
    let m = g.M.Machine in
    turns_end m.state m.frame m.ran (site_of c.args.site.now) c.args.room c.args.place
    c.args.machine.now c.loop-ended.machine c.turn.new.machine c.loop-ended.number c.in-Some.finished c.loop-ended.invariant.0
    (subst (λ ended. Makes m.state m.frame m.ran (Turn (site_of c.args.site.now) c.args.room (Tree (site_of c.args.site.now) c.args.room) c.args.place c.loop-ended.number)
    c.loop-ended.machine c.turn.new.machine (Some ended)) c.in-Some.is (subst (λ t. Makes g.M.Machine.state g.M.Machine.frame g.M.Machine.ran (Turn (site_of t) c.args.room (Tree (site_of t) c.args.room) c.args.place c.loop-ended.number)
    c.loop-ended.machine c.turn.new.machine (Some c.in-Ok.ended)) c.loop-ended.invariant.1 c.in-Ok.ensures.does))

pub turns-loop-ended-smaller : goal.turns-loop-ended-smaller
turns-loop-ended-smaller g t c =
    let m = g.M.Machine in
    (calls_fall m.state m.frame m.ran (site_of c.args.site.now) c.args.room c.args.place c.loop-ended.machine c.turn.new.machine c.loop-ended.number
    (subst (λ ended. Makes m.state m.frame m.ran (Turn (site_of c.args.site.now) c.args.room (Tree (site_of c.args.site.now) c.args.room) c.args.place c.loop-ended.number)
    c.loop-ended.machine c.turn.new.machine (Some ended)) c.in_default-ended.is (subst (λ t. Makes g.M.Machine.state g.M.Machine.frame g.M.Machine.ran (Turn (site_of t) c.args.room (Tree (site_of t) c.args.room) c.args.place c.loop-ended.number)
    c.loop-ended.machine c.turn.new.machine (Some c.in-Ok.ended)) c.loop-ended.invariant.1 c.in-Ok.ensures.does))).1

pub turns-loop-ended-preserved : goal.turns-loop-ended-preserved
turns-loop-ended-preserved g t c =
    let m = g.M.Machine in (
      rw add-one (turns_go_on m.state m.frame m.ran (site_of c.args.site.now) c.args.room c.args.place
          c.args.machine.now c.loop-ended.machine c.turn.new.machine c.loop-ended.number c.loop-ended.invariant.0
          (subst (λ ended. Makes m.state m.frame m.ran (Turn (site_of c.args.site.now) c.args.room (Tree (site_of c.args.site.now) c.args.room) c.args.place c.loop-ended.number)
          c.loop-ended.machine c.turn.new.machine (Some ended)) c.in_default-ended.is (subst (λ t. Makes g.M.Machine.state g.M.Machine.frame g.M.Machine.ran (Turn (site_of t) c.args.room (Tree (site_of t) c.args.room) c.args.place c.loop-ended.number)
          c.loop-ended.machine c.turn.new.machine (Some c.in-Ok.ended)) c.loop-ended.invariant.1 c.in-Ok.ensures.does))),
      c.turn.ensures.stays ∙ c.loop-ended.invariant.1,
    )

pub dispatch_by-returns-in_default-clause-does : goal.dispatch_by-returns-in_default-clause-does
dispatch_by-returns-in_default-clause-does g t c =
    dispatch_lacks g.M.Machine.state g.M.Machine.frame g.M.Machine.ran (site_of c.args.site.now) c.args.room c.args.kind c.args.canon.now (chosen (site_of c.args.site.now) c.args.canon.now.path)
    c.args.machine.now c.entered.new.machine refl c.in_default.ensures.lacks

pub dispatch_by-returns-in_default-within-clause-does : goal.dispatch_by-returns-in_default-within-clause-does
dispatch_by-returns-in_default-within-clause-does g t c =
    dispatch_breaks g.M.Machine.state g.M.Machine.frame g.M.Machine.ran (site_of c.args.site.now) c.args.room c.args.kind c.args.canon.now (chosen (site_of c.args.site.now) c.args.canon.now.path)
    c.args.machine.now c.entered.new.machine c.within.new.machine refl c.in-Ok.ensures.begins
    (subst (λ resource. Makes g.M.Machine.state g.M.Machine.frame g.M.Machine.ran (Within (site_of c.args.site.now) c.args.room (Tree (site_of c.args.site.now) c.args.room) resource c.args.kind c.args.canon.now)
    c.entered.new.machine c.within.new.machine None) c.in-Ok.ensures.resource c.in_default-within.ensures.does)

pub dispatch_by-leave-requires : goal.dispatch_by-leave-requires
dispatch_by-leave-requires g t c =
    can_leave g.M.Machine.state g.M.Machine.frame g.M.Machine.ran (site_of c.args.site.now) c.args.room c.args.kind c.args.canon.now (chosen (site_of c.args.site.now) c.args.canon.now.path)
    c.in-Ok-within.finished c.args.machine.now c.entered.new.machine c.within.new.machine refl c.in-Ok.ensures.begins
    (subst (λ resource. Makes g.M.Machine.state g.M.Machine.frame g.M.Machine.ran (Within (site_of c.args.site.now) c.args.room (Tree (site_of c.args.site.now) c.args.room) resource c.args.kind c.args.canon.now)
    c.entered.new.machine c.within.new.machine (Some c.in-Ok-within.finished)) c.in-Ok.ensures.resource c.in-Ok-within.ensures.does)

pub dispatch_by-returns-clause-does : goal.dispatch_by-returns-clause-does
dispatch_by-returns-clause-does g t c =
    dispatch_ends g.M.Machine.state g.M.Machine.frame g.M.Machine.ran (site_of c.args.site.now) c.args.room c.args.kind c.args.canon.now (chosen (site_of c.args.site.now) c.args.canon.now.path)
    c.in-Ok-within.finished c.args.machine.now c.entered.new.machine c.within.new.machine c.leave.new.self refl c.in-Ok.ensures.begins
    (subst (λ resource. Makes g.M.Machine.state g.M.Machine.frame g.M.Machine.ran (Within (site_of c.args.site.now) c.args.room (Tree (site_of c.args.site.now) c.args.room) resource c.args.kind c.args.canon.now)
    c.entered.new.machine c.within.new.machine (Some c.in-Ok-within.finished)) c.in-Ok.ensures.resource c.in-Ok-within.ensures.does) c.leave.ensures

pub respond-returns-in-Files-clause-does : goal.respond-returns-in-Files-clause-does
respond-returns-in-Files-clause-does g t c =
    responds_filed g.M.Machine.state g.M.Machine.frame g.M.Machine.ran (site_of c.args.site.now) c.args.room c.args.resource c.args.kind c.args.canon.now
    c.args.machine.now c.file.new.machine (seen c.file.result) c.in-Files.is (c.file.ensures c.args.room)

pub within-returns-in_default-clause-does : goal.within-returns-in_default-clause-does
within-returns-in_default-clause-does g t c =
    within_lacks g.M.Machine.state g.M.Machine.frame g.M.Machine.ran (site_of c.args.site.now) c.args.room c.args.resource c.args.kind c.args.canon.now c.args.machine.now

pub within-returns-in_default-befores-clause-does : goal.within-returns-in_default-befores-clause-does
within-returns-in_default-befores-clause-does g t c =
    subst (λ site. Makes g.M.Machine.state g.M.Machine.frame g.M.Machine.ran (Within (site_of site) c.args.room (Tree (site_of site) c.args.room) c.args.resource c.args.kind c.args.canon.now)
    c.args.machine.now c.befores.new.machine None) c.chain.ensures.stays
    (within_stops g.M.Machine.state g.M.Machine.frame g.M.Machine.ran (site_of c.chain.new.self) c.args.room c.args.resource c.args.kind c.args.canon.now c.as_slice-chain.result.now
    (c.as_slice-chain.ensures ∙ c.in-Ok.ensures.chain ∙ ap (λ path. (site_of c.args.site.now).chain path (name_of (site_of c.args.site.now) c.args.resource) c.args.kind) c.as_str.ensures
    ∙ ap (λ t. (site_of t).chain c.args.canon.now.path (name_of (site_of t) c.args.resource) c.args.kind) (sym c.chain.ensures.stays))
    c.args.machine.now c.befores.new.machine c.in_default-befores.ensures.does)

pub within-returns-in_default-respond-clause-does : goal.within-returns-in_default-respond-clause-does
within-returns-in_default-respond-clause-does g t c =
    subst (λ site. Makes g.M.Machine.state g.M.Machine.frame g.M.Machine.ran (Within (site_of site) c.args.room (Tree (site_of site) c.args.room) c.args.resource c.args.kind c.args.canon.now)
    c.args.machine.now c.respond.new.machine None) c.chain.ensures.stays
    (within_breaks g.M.Machine.state g.M.Machine.frame g.M.Machine.ran (site_of c.chain.new.self) c.args.room c.args.resource c.args.kind c.args.canon.now c.as_slice-chain.result.now
    (c.as_slice-chain.ensures ∙ c.in-Ok.ensures.chain ∙ ap (λ path. (site_of c.args.site.now).chain path (name_of (site_of c.args.site.now) c.args.resource) c.args.kind) c.as_str.ensures
    ∙ ap (λ t. (site_of t).chain c.args.canon.now.path (name_of (site_of t) c.args.resource) c.args.kind) (sym c.chain.ensures.stays))
    c.in-Ok-befores.passed.count c.in-Ok-befores.passed.ended c.args.machine.now c.befores.new.machine c.respond.new.machine c.in-Ok-befores.ensures.does
    (responds_given g.M.Machine.state g.M.Machine.frame g.M.Machine.ran (site_of c.chain.new.self) c.args.room c.args.resource c.args.kind c.args.canon.now c.in-Ok-befores.passed.ended
    c.befores.new.machine c.respond.new.machine None c.in_default-ended.is c.in_default-respond.ensures.does))

pub within-returns-in-Some-clause-does : goal.within-returns-in-Some-clause-does
within-returns-in-Some-clause-does g t c =
    subst (λ site. Makes g.M.Machine.state g.M.Machine.frame g.M.Machine.ran (Within (site_of site) c.args.room (Tree (site_of site) c.args.room) c.args.resource c.args.kind c.args.canon.now)
    c.args.machine.now c.leave_filters.new.machine (seen c.leave_filters.result)) c.chain.ensures.stays
    (within_ends g.M.Machine.state g.M.Machine.frame g.M.Machine.ran (site_of c.chain.new.self) c.args.room c.args.resource c.args.kind c.args.canon.now c.as_slice-chain.result.now
    (c.as_slice-chain.ensures ∙ c.in-Ok.ensures.chain ∙ ap (λ path. (site_of c.args.site.now).chain path (name_of (site_of c.args.site.now) c.args.resource) c.args.kind) c.as_str.ensures
    ∙ ap (λ t. (site_of t).chain c.args.canon.now.path (name_of (site_of t) c.args.resource) c.args.kind) (sym c.chain.ensures.stays))
    c.in-Ok-befores.passed.count c.in-Ok-befores.passed.ended c.args.machine.now c.befores.new.machine c.befores.new.machine c.in-Ok-befores.ensures.does c.in-Some.finished c.leave_filters.new.machine
    (responds_ended g.M.Machine.state g.M.Machine.frame g.M.Machine.ran (site_of c.chain.new.self) c.args.room c.args.resource c.args.kind c.args.canon.now c.in-Ok-befores.passed.ended c.in-Some.finished c.befores.new.machine c.in-Some.is)
    (ap (λ t. (site_of t).listeners) c.chain.ensures.stays ∙ c.requires.listeners) (seen c.leave_filters.result) (rw c.in-Some.is at c.leave_filters.ensures))

pub within-returns-clause-does : goal.within-returns-clause-does
within-returns-clause-does g t c =
    subst (λ site. Makes g.M.Machine.state g.M.Machine.frame g.M.Machine.ran (Within (site_of site) c.args.room (Tree (site_of site) c.args.room) c.args.resource c.args.kind c.args.canon.now)
    c.args.machine.now c.leave_filters-2.new.machine (seen c.leave_filters-2.result)) c.chain.ensures.stays
    (within_ends g.M.Machine.state g.M.Machine.frame g.M.Machine.ran (site_of c.chain.new.self) c.args.room c.args.resource c.args.kind c.args.canon.now c.as_slice-chain.result.now
    (c.as_slice-chain.ensures ∙ c.in-Ok.ensures.chain ∙ ap (λ path. (site_of c.args.site.now).chain path (name_of (site_of c.args.site.now) c.args.resource) c.args.kind) c.as_str.ensures
    ∙ ap (λ t. (site_of t).chain c.args.canon.now.path (name_of (site_of t) c.args.resource) c.args.kind) (sym c.chain.ensures.stays))
    c.in-Ok-befores.passed.count c.in-Ok-befores.passed.ended c.args.machine.now c.befores.new.machine c.respond.new.machine c.in-Ok-befores.ensures.does c.in-Ok-respond.finished c.leave_filters-2.new.machine
    (responds_given g.M.Machine.state g.M.Machine.frame g.M.Machine.ran (site_of c.chain.new.self) c.args.room c.args.resource c.args.kind c.args.canon.now c.in-Ok-befores.passed.ended
    c.befores.new.machine c.respond.new.machine (Some c.in-Ok-respond.finished) c.in_default-ended.is c.in-Ok-respond.ensures.does)
    (ap (λ t. (site_of t).listeners) c.chain.ensures.stays ∙ c.requires.listeners) (seen c.leave_filters-2.result) c.leave_filters-2.ensures)
