use Rattle.std.proofs.Common.{map, reverse, take}
use Rattle.sv_component.specs.Runs.{Runs}
use Rattle.sv_component.specs.Steps.{steps_of}
use Rattle.sv_live.specs.Calls.{destroyed}
use Rattle.sv_live.specs.World.{HasSameCounts, world}
use Rattle.sv_live.proofs.stop.destroy_back.Given as goal

abbrev pub invariant-loop-done : goal.invariant-loop-done
invariant-loop-done g l = record {
  counts : HasSameCounts l.initial.parts l.parts;
  made : Runs (steps_of g.S.Servlet.servlet_step g.F.Filter.filter_step g.L.Listener.listener_step)
      (world l.context l.initial.parts l.initial.journal) (take l.done (map destroyed (reverse l.places))) (world l.context l.parts l.journal);
}
