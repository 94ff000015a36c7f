use Rattle.sv_lifecycle.proofs.Mirroring.{undone_starts_mirror}
use Rattle.sv_lifecycle.proofs.laws.undone_starts_mirror.Goals as goal

pub returns : goal.returns
returns c = undone_starts_mirror
