use Rattle.std.proofs.Common.{rules, codes}
use Rattle.sv_message.proofs.FieldsLemmas.{length-values_of}
use Rattle.sv_message.proofs.host.host_count.Goals as goal

pub returns : goal.returns
returns c = rw (length-values_of (codes "host") c.args.fields.now) (search rules)
