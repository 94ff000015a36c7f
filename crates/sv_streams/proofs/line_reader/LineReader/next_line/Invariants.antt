use Rattle.std.proofs.Common.{◌-◌}
use Rattle.sv_streams.specs.Lines.{max_reads}
use Rattle.sv_streams.proofs.ProgressLemmas.{Progress}
use Rattle.sv_streams.proofs.line_reader.LineReader.next_line.Given as goal

abbrev pub invariant-loop-line : goal.invariant-loop-line
invariant-loop-line g l = Progress g.S.Stream.makes l.fn.source l.fn.self l.source l.self

abbrev pub decreases-loop-line : goal.decreases-loop-line
decreases-loop-line g l = max_reads - l.self.reads
