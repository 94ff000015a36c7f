use Rattle.std.proofs.Common.{[], sym, ◌∙◌}
use Rattle.sv_run.specs.Contexts.{theory_of}
use Rattle.sv_run.specs.Effect.{joined, telling}
use Rattle.sv_run.specs.Seen.{happening_of}
use Rattle.sv_run.specs.State.{settled_at}
use Rattle.sv_run.proofs.Adding.{brings_all}
use Rattle.sv_run.proofs.HostBreaking.{broken_event, not_begun}
use Rattle.sv_run.proofs.Contexts.{alters_behind, moves_alter, moves_join}
use Rattle.sv_run.proofs.HostHappening.{accepts_at, raised_to}
use Rattle.sv_run.specs.Host.{state_of}
use Rattle.sv_run.proofs.host.Host.accept.Goals as goal

pub returns-then-not-whole-clause-alters : goal.returns-then-not-whole-clause-alters
returns-then-not-whole-clause-alters g c =
    moves_alter g.C.Context.conduct g.met.C.Context.is_motion c.args.self.now.contexts c.expire_all.new.self c.expire_all.ensures.moves

pub returns-in_default-clause-moves : goal.returns-in_default-clause-moves
returns-in_default-clause-moves g c =
    moves_join g.C.Context.conduct g.met.C.Context.is_motion c.args.self.now.contexts c.expire_all.new.self c.happen.new.self.contexts
    c.expire_all.ensures.moves c.in_default.ensures.moves

pub returns-in_default-clause-alters : goal.returns-in_default-clause-alters
returns-in_default-clause-alters g c =
    alters_behind g.C.Context.conduct g.met.C.Context.is_motion c.args.self.now.contexts c.expire_all.new.self c.happen.new.self.contexts
    c.expire_all.ensures.moves c.happen.ensures.alters

pub returns-clause-alters : goal.returns-clause-alters
returns-clause-alters g c =
    alters_behind g.C.Context.conduct g.met.C.Context.is_motion c.args.self.now.contexts c.expire_all.new.self c.happen.new.self.contexts
    c.expire_all.ensures.moves c.happen.ensures.alters

pub returns-clause-accepts : goal.returns-clause-accepts
returns-clause-accepts g c =
    let theory = theory_of g.C.HasContextPath.path_of g.C.Context.conduct g.W.Words.draws in
    let told = c.expire_all.ensures.expires in
    let noted = told.2 (sym c.whole.ensures ∙ c.if-not-whole.false) in
    let happened = c.in-Ok.ensures.happens in
    let brought = brings_all c.output-output.result c.expire_all.new.journal told.0 happened.0 _ _ c.output-output.ensures noted happened.2 in (
      joined (telling told.0) happened.0,
      accepts_at theory (state_of c.args.self.now) (happening_of c.args.happening) (state_of c.happen.new.self) c.set.new.self told.0
          c.expire_all.new.self happened.0 (raised_to (happening_of c.args.happening) c.args.self.now.date c.moment.result c.moment_after-moment.result c.set.new.self
          c.moment.ensures c.moment_after-moment.ensures c.set.ensures) c.requires.runs c.requires.fits (rw (sym c.set.ensures) at told.1) happened.1,
      c.into_parts-reaction.ensures.reaction ∙ brought.0,
      c.into_parts-reaction.ensures.accesses ∙ brought.1,
    )

pub returns-then-not-whole-clause-breaks : goal.returns-then-not-whole-clause-breaks
returns-then-not-whole-clause-breaks g c =
    let theory = theory_of g.C.HasContextPath.path_of g.C.Context.conduct g.W.Words.draws in
    let state = state_of c.args.self.now in
    let happening = happening_of c.args.happening in
    let told = c.expire_all.ensures.expires in
    let settled = settled_at c.set.new.self c.expire_all.new.self state in
    broken_event theory state happening c.set.new.self told.0 c.expire_all.new.self settled.world
    (raised_to happening c.args.self.now.date c.moment.result c.moment_after-moment.result c.set.new.self c.moment.ensures c.moment_after-moment.ensures c.set.ensures)
    (rw (sym c.set.ensures) at told.1) ([], not_begun theory settled happening)

pub returns-in_default-clause-breaks : goal.returns-in_default-clause-breaks
returns-in_default-clause-breaks g c =
    let theory = theory_of g.C.HasContextPath.path_of g.C.Context.conduct g.W.Words.draws in
    let state = state_of c.args.self.now in
    let happening = happening_of c.args.happening in
    let told = c.expire_all.ensures.expires in
    broken_event theory state happening c.set.new.self told.0 c.expire_all.new.self (state_of c.happen.new.self).world
    (raised_to happening c.args.self.now.date c.moment.result c.moment_after-moment.result c.set.new.self c.moment.ensures c.moment_after-moment.ensures c.set.ensures)
    (rw (sym c.set.ensures) at told.1) c.in_default.ensures.breaks
