use Rattle.std.proofs.Common.{rules}
use Rattle.sv_descriptor.specs.Descriptor.{located_descriptor}
use Rattle.sv_program.proofs.configuration.descriptor_in.Goals as goal

pub returns-in-Ok-read_located_descriptor : goal.returns-in-Ok-read_located_descriptor
unfolding located_descriptor
returns-in-Ok-read_located_descriptor c = search rules

pub returns-in_ok-copy_of-in-Err-Fault : goal.returns-in_ok-copy_of-in-Err-Fault
unfolding located_descriptor
returns-in_ok-copy_of-in-Err-Fault c = search rules
