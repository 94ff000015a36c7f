use Rattle.sv_message.proofs.HostLemmas.{host_valid}
use Rattle.sv_message.proofs.field.Field.take_host.Goals as goal

pub read_value-requires : goal.read_value-requires
read_value-requires c = host_valid c.args.host.now c.requires
