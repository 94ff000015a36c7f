use Rattle.sv_deployments.proofs.Checking.{first_fault}
use Rattle.sv_deployments.proofs.check.checks_find_what_a_start_finds.Goals as goal

pub returns : goal.returns
returns c = first_fault
