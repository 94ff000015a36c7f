use Rattle.std.proofs.Common.{length}
use Rattle.sv_login.proofs.field_name.+decodes_to.Given as goal

abbrev pub decreases-decodes_to : goal.decreases-decodes_to
decreases-decodes_to l = length l.bytes.now
