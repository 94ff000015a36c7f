use Rattle.sv_wire.proofs.Written.{broken_chunks_are_no_body, cut_chunks_are_no_body}
use Rattle.sv_wire.proofs.round_trip.broken_answers_are_no_bodies.Goals as goal

pub returns-clause-cut : goal.returns-clause-cut
returns-clause-cut c = cut_chunks_are_no_body

pub returns-clause-broken : goal.returns-clause-broken
returns-clause-broken c = broken_chunks_are_no_body
