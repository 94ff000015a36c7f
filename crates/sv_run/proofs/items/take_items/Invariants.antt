use Rattle.std.proofs.Common.{◌≡◌, false, take, drop}
use Rattle.sv_run.specs.Output.{Adds}
use Rattle.sv_run.proofs.HostTaking.{TakesOn}
use Rattle.sv_run.specs.Contexts.{theory_of}
use Rattle.sv_run.specs.Effect.{Effect}
use Rattle.sv_run.specs.Events.{MovesAll}
use Rattle.sv_run.specs.Items.{Takes}
use Rattle.sv_run.specs.State.{world_of}
use Rattle.sv_run.proofs.items.take_items.Given as goal

abbrev pub invariant-loop-item : goal.invariant-loop-item
invariant-loop-item g l = record {
  left : drop l.item-index l.item-items ≡ drop l.item-index l.fn.items.items;
  takes : (front : Effect g.row.C.Denot)
      × TakesOn (theory_of g.C.HasContextPath.path_of g.C.Context.conduct g.W.Words.draws) l.date l.fn.items.items
      (world_of l.fn.contexts l.fn.words) front (world_of l.contexts l.words) (drop l.item-index l.fn.items.items)
      × Adds l.fn.output front l.output
      × Takes (theory_of g.C.HasContextPath.path_of g.C.Context.conduct g.W.Words.draws) l.date (take l.item-index l.fn.items.items)
      (world_of l.fn.contexts l.fn.words) front (world_of l.contexts l.words);
  stays : l.output.closes ≡ false;
  moves : MovesAll g.C.Context.conduct l.fn.contexts l.contexts;
}
