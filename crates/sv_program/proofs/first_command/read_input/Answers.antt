use Rattle.sv_program.proofs.FirstRead.{read_front}
use Rattle.sv_program.proofs.first_command.read_input.Goals as goal

pub returns-in-Ok-clause-front : goal.returns-in-Ok-clause-front
returns-in-Ok-clause-front g c =
    rw (← c.take.ensures.inner, ← c.take.ensures.limit)
    (read_front (g.R.Read.remaining c.take.result.inner) c.take.result.limit c.new-input.result.items c.read_to_end.new.buf.items c.new-input.ensures.items c.in-Ok.ensures.bytes)
