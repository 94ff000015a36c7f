use Rattle.std.proofs.Common.{◌≡◌, ◌++◌, take, drop, map}
use Rattle.sv_message.specs.Host.{with_host}
use Rattle.sv_message.proofs.host.replace_hosts.Given as goal

abbrev pub invariant-loop-field : goal.invariant-loop-field
invariant-loop-field l = l.field-items ≡ map (with_host l.host) (take l.field-index l.fn.fields) ++ drop l.field-index l.fn.fields
