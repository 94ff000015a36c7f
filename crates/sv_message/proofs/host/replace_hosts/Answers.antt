use Rattle.std.proofs.Common.{◌≡◌, rules}
use Rattle.sv_message.specs.Host.{with_host}
use Rattle.sv_message.proofs.HostLemmas.{replaced_step, replaced_kept}
use Rattle.sv_message.proofs.host.replace_hosts.Goals as goal

pub loop-field-preserved : goal.loop-field-preserved
loop-field-preserved c =
    let made : c.take_host.new.self ≡ with_host c.args.host.now c.field-item.result = search rules in
    replaced_step (with_host c.args.host.now) c.args.fields.now c.loop-field.field-items c.loop-field.field-index c.field-item.result
    c.take_host.new.self c.loop-field.invariant c.loop-field-test.true c.field-item.is made

pub returns-in_err-take_host-clause-no_memory : goal.returns-in_err-take_host-clause-no_memory
returns-in_err-take_host-clause-no_memory c =
    let kept : c.take_host.new.self ≡ c.field-item.result = search rules in
    replaced_kept (with_host c.args.host.now) c.from_residual.result c.args.fields.now c.loop-field.field-items c.loop-field.field-index c.field-item.result
    c.take_host.new.self c.loop-field.invariant c.field-item.is kept
