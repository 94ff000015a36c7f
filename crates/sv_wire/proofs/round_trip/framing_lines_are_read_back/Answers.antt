use Rattle.sv_wire.proofs.FramingLemmas.{chunked_fields_are_read_back, framing_lines_are_fields, length_fields_are_read_back}
use Rattle.sv_wire.proofs.round_trip.framing_lines_are_read_back.Goals as goal

pub returns-clause-fields : goal.returns-clause-fields
returns-clause-fields c = framing_lines_are_fields

pub returns-clause-chunked : goal.returns-clause-chunked
returns-clause-chunked c = chunked_fields_are_read_back

pub returns-clause-length : goal.returns-clause-length
returns-clause-length c = length_fields_are_read_back
