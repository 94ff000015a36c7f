use Rattle.sv_files.specs.Fault.{list_fault}
use Rattle.sv_deployments.proofs.Ending.{refused_files}
use Rattle.sv_deployments.proofs.files.files_of.Goals as goal

pub returns-in-Err : goal.returns-in-Err
returns-in-Err c =
    rw (← c.into_vec-files.ensures)
    (refused_files c.args.path.now c.into_vec-files.result.items _ _ (list_fault c.in-Err.fault) c.refused.result (rw c.as_slice.ensures.value at c.in_ok-bad.ensures) (rw c.as_slice-2.ensures.value at c.in_ok-large.ensures) c.in-Err.ensures c.refused.ensures)
