use Rattle.sv_audit.proofs.SecureLemmas.{only_transport}
use Rattle.sv_audit.proofs.laws.only_transport_changes.Goals as goal

pub returns : goal.returns
returns c = only_transport
