use Rattle.std.proofs.Common.{subst}
use Rattle.sv_lifecycle.specs.Fit.{Fits}
use Rattle.sv_lifecycle.specs.Starting.{Starts}
use Rattle.sv_journal.specs.declared.start_code.StartCode.TheVariants as codes
use Rattle.sv_lifecycle.proofs.Attempts.{did_nothing, own_plan}
use Rattle.sv_lifecycle.proofs.context_start.start.Goals as goal
use Rattle.sv_component.specs.Steps.{steps_of}

pub returns-then-not-fits : goal.returns-then-not-fits
returns-then-not-fits g c =
    did_nothing (steps_of g.S.Servlet.servlet_step g.F.Filter.filter_step g.L.Listener.listener_step) c.args.context.now c.args.descriptor.now c.args.parts c.args.journal.now codes.PartsMismatch
    (subst (λ app. Fits app c.args.parts → ⊥) c.web_app-app.ensures.value c.if-not-fits.ensures)

pub returns-then-not-whole : goal.returns-then-not-whole
returns-then-not-whole g c =
    did_nothing (steps_of g.S.Servlet.servlet_step g.F.Filter.filter_step g.L.Listener.listener_step) c.args.context.now c.args.descriptor.now c.args.parts c.args.journal.now codes.NoMemory
    (subst (λ app. Fits app c.args.parts) c.web_app-app.ensures.value c.if-not-fits.ensures)

pub returns-in-Ok : goal.returns-in-Ok
returns-in-Ok g c =
    let app = c.web_app-app.result.now in
    let is_plan = c.in-Ok.ensures in
    subst (λ descriptor. Starts (steps_of g.S.Servlet.servlet_step g.F.Filter.filter_step g.L.Listener.listener_step) c.args.context.now descriptor c.args.parts c.args.journal.now c.run.result c.run.new.journal) c.web_app-app.ensures.value
    (subst (λ context. Starts (steps_of g.S.Servlet.servlet_step g.F.Filter.filter_step g.L.Listener.listener_step) context app c.args.parts c.args.journal.now c.run.result c.run.new.journal) is_plan.context
    (c.run.ensures app c.if-not-fits.ensures (own_plan c.args.context.now app c.in-Ok.plan is_plan)))

pub returns-in-Err : goal.returns-in-Err
returns-in-Err g c =
    did_nothing (steps_of g.S.Servlet.servlet_step g.F.Filter.filter_step g.L.Listener.listener_step) c.args.context.now c.args.descriptor.now c.args.parts c.args.journal.now codes.NoMemory
    (subst (λ app. Fits app c.args.parts) c.web_app-app.ensures.value c.if-not-fits.ensures)
