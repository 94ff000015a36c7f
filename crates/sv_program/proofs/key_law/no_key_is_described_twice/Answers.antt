use Rattle.std.proofs.Common.{refl}
use Rattle.sv_program.proofs.key_law.no_key_is_described_twice.Goals as goal

pub returns : goal.returns
returns c = refl
