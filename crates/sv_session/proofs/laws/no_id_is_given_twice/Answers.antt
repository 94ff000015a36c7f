use Rattle.std.proofs.Common.{arith}
use Rattle.sv_session.specs.Runs.{ids_given, left_after}
use Rattle.sv_session.specs.Store.{empty_store}
use Rattle.sv_session.proofs.IdLemmas.{next_serials, pairs_differ}
use Rattle.sv_session.proofs.laws.no_id_is_given_twice.Goals as goal

pub returns : goal.returns
returns c limit interval calls =
    pairs_differ 0 (left_after calls (empty_store limit interval)).serial (ids_given calls (empty_store limit interval))
    (next_serials calls (empty_store limit interval) (omega arith))
