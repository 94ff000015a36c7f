use Rattle.std.proofs.Common.{[], refl}
use Rattle.sv_run.specs.Contexts.{theory_of}
use Rattle.sv_run.specs.State.{world_of}
use Rattle.sv_wire.specs.declared.item.Item.TheVariants.{Continue, Refuse}
use Rattle.sv_run.proofs.HostBreaking.{broken_as, none_done_if}
use Rattle.sv_run.proofs.Contexts.{moves_none}
use Rattle.sv_run.proofs.HostTaking.{takes_as, takes_continue, takes_refusal}
use Rattle.sv_run.specs.Output.{growth_of}
use Rattle.sv_run.proofs.items.take_item.Goals as goal

pub returns-in-Continue-clause-moves : goal.returns-in-Continue-clause-moves
returns-in-Continue-clause-moves g c = moves_none g.C.Context.conduct g.met.C.Context.is_motion c.args.contexts.now

pub returns-in-Refuse-clause-moves : goal.returns-in-Refuse-clause-moves
returns-in-Refuse-clause-moves g c = moves_none g.C.Context.conduct g.met.C.Context.is_motion c.args.contexts.now

pub returns-in-Continue-clause-takes : goal.returns-in-Continue-clause-takes
returns-in-Continue-clause-takes g c =
    let theory = theory_of g.C.HasContextPath.path_of g.C.Context.conduct g.W.Words.draws in
    let world = world_of c.args.contexts.now c.args.words.now in
    let start = growth_of c.args.output.now in
    let end = growth_of c.send_continue.new.output in
    takes_as theory c.args.date.now c.send_continue.result world world start end c.args.item.now Continue c.in-Continue.is
    (takes_continue theory c.args.date.now c.send_continue.result world start end c.send_continue.ensures)

pub returns-in-Refuse-clause-takes : goal.returns-in-Refuse-clause-takes
returns-in-Refuse-clause-takes g c =
    let theory = theory_of g.C.HasContextPath.path_of g.C.Context.conduct g.W.Words.draws in
    let world = world_of c.args.contexts.now c.args.words.now in
    let start = growth_of c.args.output.now in
    let end = growth_of c.refuse.new.output in
    takes_as theory c.args.date.now c.refuse.result world world start end c.args.item.now (Refuse c.in-Refuse.fault) c.in-Refuse.is
    (takes_refusal theory c.args.date.now c.refuse.result world start end c.in-Refuse.fault c.refuse.ensures)

pub returns-in-Continue-clause-breaks : goal.returns-in-Continue-clause-breaks
returns-in-Continue-clause-breaks g c =
    let theory = theory_of g.C.HasContextPath.path_of g.C.Context.conduct g.W.Words.draws in
    let world = world_of c.args.contexts.now c.args.words.now in
    broken_as theory c.args.date.now c.send_continue.result c.args.item.now Continue world world c.in-Continue.is
    (none_done_if theory c.args.date.now c.send_continue.result Continue world ([], (refl, refl)))

pub returns-in-Refuse-clause-breaks : goal.returns-in-Refuse-clause-breaks
returns-in-Refuse-clause-breaks g c =
    let theory = theory_of g.C.HasContextPath.path_of g.C.Context.conduct g.W.Words.draws in
    let world = world_of c.args.contexts.now c.args.words.now in
    broken_as theory c.args.date.now c.refuse.result c.args.item.now (Refuse c.in-Refuse.fault) world world c.in-Refuse.is
    (none_done_if theory c.args.date.now c.refuse.result (Refuse c.in-Refuse.fault) world ([], (refl, refl)))
