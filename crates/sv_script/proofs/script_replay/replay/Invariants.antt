use Rattle.sv_script.proofs.ProgressLemmas.{Progress, left}
use Rattle.sv_script.proofs.script_replay.replay.Given as goal

abbrev pub invariant-loop-line : goal.invariant-loop-line
invariant-loop-line g l = Progress g.R.EventHandler.steps g.I.Stream.makes g.O.Stream.makes l.fn.handler l.fn.script l.fn.output l.lines l.course l.handler l.script l.output

abbrev pub decreases-loop-line : goal.decreases-loop-line
decreases-loop-line g l = left l.lines
