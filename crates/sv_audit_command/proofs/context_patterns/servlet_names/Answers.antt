use Rattle.sv_audit_command.proofs.MappingLemmas.{names_more}
use Rattle.sv_audit_command.proofs.context_patterns.servlet_names.Goals as goal

pub loop-mapping-preserved : goal.loop-mapping-preserved
loop-mapping-preserved c =
    names_more c.args.mappings.now c.loop-mapping.mapping-index c.mapping-item.result c.loop-mapping.names.items c.push_names.new.names.items c.as_str.result.now c.as_slice.result.now
    c.loop-mapping-test.true c.mapping-item.is c.loop-mapping.invariant c.as_str.ensures c.as_slice.ensures c.in_ok-push_names.ensures
