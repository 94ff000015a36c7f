use Rattle.std.proofs.Common.{List, ap, sym, subst}
use Rattle.sv_run.specs.Contexts.{theory_of}
use Rattle.sv_run.specs.Effect.{editing}
use Rattle.sv_run.specs.Events.{MovesAll}
use Rattle.sv_run.specs.State.{world_of}
use Rattle.sv_run.proofs.Contexts.{moves_none}
use Rattle.sv_run.proofs.EditedContexts.{edits_state}
use Rattle.sv_run.specs.Host.{state_of}
use Rattle.sv_run.proofs.host.Host.edit.Goals as goal

pub returns-in_default-clause-moves : goal.returns-in_default-clause-moves
returns-in_default-clause-moves g c =
    let before = c.args.self.now.contexts in
    subst (λ (after : List g.row.C.Denot). MovesAll g.C.Context.conduct before after) (sym (c.edit.ensures.refused c.in_default.ensures))
    (moves_none g.C.Context.conduct g.met.C.Context.is_motion before)

pub returns-clause-edits : goal.returns-clause-edits
returns-clause-edits g c =
    let theory = theory_of g.C.HasContextPath.path_of g.C.Context.conduct g.W.Words.draws in (
      editing c.in-Ok.told,
      edits_state theory (state_of c.args.self.now) c.edit.new.self c.args.path.now c.args.edit.now c.edit.result c.in-Ok.told c.in-Ok.ensures.0
          (c.edit.ensures.edits c.in-Ok.ensures.1),
      c.tell_edited.ensures,
    )

pub returns-in_default-clause-refused : goal.returns-in_default-clause-refused
returns-in_default-clause-refused g c =
    ap (λ (contexts : List g.row.C.Denot). world_of contexts c.args.self.now.words) (c.edit.ensures.refused c.in_default.ensures)
