use Rattle.std.specs.Io.KnownBytes.{Keeps}
use Rattle.sv.proofs.session_save.write_some.Given as goal

abbrev pub invariant-loop : goal.invariant-loop
invariant-loop g l = Keeps (g.F.Write.contents l.fn.file) (g.F.Write.contents l.file)
