use Rattle.sv_program.specs.Configuration.{each}
use Rattle.sv_audit_command.specs.ComparedServers.{other_context}
use Rattle.sv_audited_contexts.proofs.Steps.{one_more}
use Rattle.sv_audit_command.proofs.compared_servers.other_contexts.Goals as goal

pub loop-texts-preserved : goal.loop-texts-preserved
loop-texts-preserved c =
    one_more (other_context c.args.is_secure) c.args.texts.now c.loop-texts.texts-index c.texts-item.result c.in_ok-context.context c.loop-texts.contexts.items c.push.new.self.items
    (each (other_context c.args.is_secure) c.args.texts.now) c.loop-texts-test.true c.texts-item.is c.in_ok-context.ensures c.in_ok-push.ensures.items c.loop-texts.invariant
