use Rattle.sv_uri.proofs.ItsOwnLemmas.{canonical_is_its_own}
use Rattle.sv_uri.proofs.laws.canonical_is_its_own.Goals as goal

pub returns : goal.returns
returns c = canonical_is_its_own
