use Rattle.sv_wire.proofs.WholeLemmas.{cut_whole_is_awaited, whole_is_read_back}
use Rattle.sv_wire.proofs.round_trip.whole_answers_are_read_back.Goals as goal

pub returns-clause-whole : goal.returns-clause-whole
returns-clause-whole c = whole_is_read_back

pub returns-clause-cut : goal.returns-clause-cut
returns-clause-cut c = cut_whole_is_awaited
