use Rattle.sv.proofs.server_start.start_with.Goals as goal

pub returns-in-Ok-refused : goal.returns-in-Ok-refused
returns-in-Ok-refused c = (c.in-Ok.resumed.1, c.in-Ok.ensures)
