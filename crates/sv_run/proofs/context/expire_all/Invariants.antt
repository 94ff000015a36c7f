use Rattle.std.proofs.Common.{◌≡◌, true, List, length}
use Rattle.sv_journal.specs.declared.entry.Entry.{Entry}
use Rattle.sv_run.specs.Effect.{noting}
use Rattle.sv_run.specs.Events.{MovesAll}
use Rattle.sv_run.proofs.Contexts.{ExpiresTo}
use Rattle.sv_run.proofs.context.expire_all.Given as goal

abbrev pub invariant-loop-place : goal.invariant-loop-place
invariant-loop-place g l = record {
  count : length l.contexts ≡ length l.initial.contexts;
  expires : (told : List Entry) × ExpiresTo g.C.Context.conduct l.moment l.place l.initial.contexts told l.contexts
      × (l.journal.whole ≡ true → l.journal ≡ noting told l.initial.journal);
  moves : MovesAll g.C.Context.conduct l.initial.contexts l.contexts;
}
