use Rattle.std.proofs.Common.{◌≡◌, length, take}
use Rattle.sv_component.specs.Runs.{Runs}
use Rattle.sv_listeners.specs.Telling.{listeners_alone, told}
use Rattle.sv_listeners.proofs.notification.tell.Given as goal
use Rattle.sv_component.specs.Steps.{listening}

abbrev pub invariant-loop-told : goal.invariant-loop-told
invariant-loop-told g l = record {
  counts : length l.listeners ≡ length l.initial.listeners;
  made : Runs (listening g.L.Listener.listener_step)
      (listeners_alone l.context l.initial.listeners l.initial.journal) (take l.told (told l.event (length l.initial.listeners))) (listeners_alone l.context l.listeners l.journal);
}
