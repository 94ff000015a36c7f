use Rattle.std.proofs.Common.{Ok, Err, refl, subst}
use Rattle.sv_container.specs.Starting.{Starts}
use Rattle.sv_journal.specs.Journal.{JournalState}
use Rattle.sv_container.proofs.script.run_script.Goals as goal
use Rattle.sv_component.specs.Steps.{steps_of}

pub returns-in-Ok : goal.returns-in-Ok
returns-in-Ok g c =
    let P : JournalState → Type 0 =
    λ before. Starts (steps_of g.S.Servlet.servlet_step g.F.Filter.filter_step g.L.Listener.listener_step) c.args.deployments.items c.new.result before
    (Ok c.in-Ok.container) c.new-2.new.journal in
    record {
      words = c.new.result;
      are_fresh = c.new.ensures;
      begun = Ok c.in-Ok.container;
      started = c.new-2.new.journal;
      starts = subst P c.new-started.ensures c.in-Ok.ensures;
      follows = (c.run_started.result, c.run_started.ensures, c.ended_by.ensures);
    }

pub returns : goal.returns
returns g c =
    let P : JournalState → Type 0 =
    λ before. Starts (steps_of g.S.Servlet.servlet_step g.F.Filter.filter_step g.L.Listener.listener_step) c.args.deployments.items c.new.result before
    (Err c.in-Err.fault) c.new-2.new.journal in
    record {
      words = c.new.result;
      are_fresh = c.new.ensures;
      begun = Err c.in-Err.fault;
      started = c.new-2.new.journal;
      starts = subst P c.new-started.ensures c.in-Err.ensures;
      follows = (refl, rw (c.into_cause-code.ensures.code, c.into_cause-code.ensures.context) at c.refuse.ensures);
    }
