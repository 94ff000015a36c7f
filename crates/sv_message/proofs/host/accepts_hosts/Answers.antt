use Rattle.std.proofs.Common.{rules, codes}
use Rattle.sv_message.specs.Host.{is_host}
use Rattle.sv_message.proofs.FieldsLemmas.{list_all-values_of}
use Rattle.sv_message.proofs.host.accepts_hosts.Goals as goal

pub returns-then-minor-eq1 : goal.returns-then-minor-eq1
returns-then-minor-eq1 c = rw (list_all-values_of (codes "host") c.args.fields.now is_host) (search rules)

pub returns-else-minor-eq1 : goal.returns-else-minor-eq1
returns-else-minor-eq1 c = rw (list_all-values_of (codes "host") c.args.fields.now is_host) (search rules)

pub returns-else-are_hosts_valid : goal.returns-else-are_hosts_valid
returns-else-are_hosts_valid c = rw (list_all-values_of (codes "host") c.args.fields.now is_host) (search rules)
