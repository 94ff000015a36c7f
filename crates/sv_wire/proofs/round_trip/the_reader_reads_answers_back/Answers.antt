use Rattle.sv_wire.proofs.ReaderLemmas.{reader_awaits_the_end, reader_decodes, reader_reads_chunks_back}
use Rattle.sv_wire.proofs.round_trip.the_reader_reads_answers_back.Goals as goal

pub returns-clause-decodes : goal.returns-clause-decodes
returns-clause-decodes c = reader_decodes

pub returns-clause-whole : goal.returns-clause-whole
returns-clause-whole c = reader_reads_chunks_back

pub returns-clause-awaits : goal.returns-clause-awaits
returns-clause-awaits c = reader_awaits_the_end
