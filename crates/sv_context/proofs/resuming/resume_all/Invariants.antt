use Rattle.std.proofs.Common.{◌≡◌, List, ◌++◌, drop, take, length}
use Rattle.sv_component.specs.Steps.{steps_of}
use Rattle.sv_context.specs.Resuming.{ResumesAll}
use Rattle.sv_context.specs.State.{ContextState}
use Rattle.sv_journal.specs.Journal.{JournalState}
use Rattle.sv_context.proofs.resuming.resume_all.Given as goal

abbrev pub invariant-loop-place : goal.invariant-loop-place
invariant-loop-place g l = record {
  so_far : (others : List (ContextState g.row.S.Denot g.row.F.Denot g.row.L.Denot)) (after : JournalState)
      → ResumesAll (steps_of g.S.Servlet.servlet_step g.F.Filter.filter_step g.L.Listener.listener_step) l.waiting.items (drop l.place l.fn.contexts) l.journal others after
      → ResumesAll (steps_of g.S.Servlet.servlet_step g.F.Filter.filter_step g.L.Listener.listener_step) l.fn.resumptions.items l.fn.contexts l.fn.journal (take l.place l.contexts ++ others) after;
  same : drop l.place l.contexts ≡ drop l.place l.fn.contexts;
  many : length l.contexts ≡ length l.fn.contexts;
}
