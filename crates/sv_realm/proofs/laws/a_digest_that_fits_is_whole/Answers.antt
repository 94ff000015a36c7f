use Rattle.sv_realm.proofs.Whole.{fits_by_whole_digest}
use Rattle.sv_realm.proofs.laws.a_digest_that_fits_is_whole.Goals as goal

pub returns : goal.returns
returns c = fits_by_whole_digest
