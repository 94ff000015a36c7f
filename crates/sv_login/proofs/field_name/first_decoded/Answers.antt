use Rattle.sv_login.proofs.NameLemmas.{decodes_to_nothing}
use Rattle.sv_login.proofs.field_name.first_decoded.Goals as goal

pub returns-in_err-byte : goal.returns-in_err-byte
returns-in_err-byte c = rw c.from_residual.ensures (decodes_to_nothing _ c.in_err-byte.ensures.cases)
