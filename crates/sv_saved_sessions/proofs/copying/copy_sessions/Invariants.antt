use Rattle.sv_saved_sessions.proofs.CopyLemmas.{IsCopiedUpTo}
use Rattle.sv_saved_sessions.proofs.copying.copy_sessions.Given as goal

abbrev pub invariant-loop : goal.invariant-loop
invariant-loop l = IsCopiedUpTo l.after l.count l.store.store l.fn.copies l.counter l.last l.copies
