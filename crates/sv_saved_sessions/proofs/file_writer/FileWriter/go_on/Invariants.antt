use Rattle.std.proofs.Common.{◌≤◌}
use Rattle.sv_saved_sessions.proofs.UpToLemmas.{KeepsOn}
use Rattle.sv_saved_sessions.proofs.file_writer.FileWriter.go_on.Given as goal

abbrev pub invariant-loop : goal.invariant-loop
invariant-loop g l = (l.counter ≤ l.count) × KeepsOn g.O.Stream.makes l.sessions.store l.fn.self l.fn.sink l.counter l.self l.sink
