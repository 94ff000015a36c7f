use Rattle.sv_program.specs.Configuration.{each}
use Rattle.sv_audited_contexts.specs.Audited.{audited_context}
use Rattle.sv_audited_contexts.proofs.Steps.{one_more}
use Rattle.sv_audited_contexts.proofs.audited_context.contexts_beside.Goals as goal

pub loop-found-preserved : goal.loop-found-preserved
loop-found-preserved c =
    one_more (audited_context c.args.options c.args.paths.now) c.args.found.now c.loop-found.found-index c.found-item.result c.in_ok-context.context c.loop-found.contexts.items c.push.new.self.items
    (each (audited_context c.args.options c.args.paths.now) c.args.found.now) c.loop-found-test.true c.found-item.is c.in_ok-context.ensures c.in_ok-push.ensures.items c.loop-found.invariant
