use Rattle.std.proofs.Common.{ap, refl}
use Rattle.sv_run.specs.Connections.{connections_of}
use Rattle.sv_run.specs.Contexts.{theory_of}
use Rattle.sv_run.specs.Effect.{closing, nothing}
use Rattle.sv_run.specs.Seen.{happening_of}
use Rattle.sv_run.proofs.Adding.{adds_closing, adds_nothing}
use Rattle.sv_run.proofs.HostBreaking.{broken_off, not_begun_if}
use Rattle.sv_run.proofs.Contexts.{alters_none, if_err, moves_alter, moves_none}
use Rattle.sv_run.proofs.EditedContexts.{edits_happen_so}
use Rattle.sv_run.proofs.HostHappening.{ends, loses, opens_so, ticks}
use Rattle.sv_run.specs.Host.{state_of}
use Rattle.sv_run.proofs.host.Host.happen.Goals as goal

pub returns-in-Opened-clause-moves : goal.returns-in-Opened-clause-moves
returns-in-Opened-clause-moves g c =
    if_err c.open.result (moves_none g.C.Context.conduct g.met.C.Context.is_motion c.args.self.now.contexts)

pub returns-in-Piece-clause-moves : goal.returns-in-Piece-clause-moves
returns-in-Piece-clause-moves g c = if_err c.take_piece.result c.take_piece.ensures.moves

pub returns-in-Opened-clause-alters : goal.returns-in-Opened-clause-alters
returns-in-Opened-clause-alters g c = alters_none g.C.Context.conduct g.met.C.Context.is_motion c.args.self.now.contexts

pub returns-in-Piece-clause-alters : goal.returns-in-Piece-clause-alters
returns-in-Piece-clause-alters g c =
    moves_alter g.C.Context.conduct g.met.C.Context.is_motion c.args.self.now.contexts c.take_piece.new.self.contexts c.take_piece.ensures.moves

pub returns-in-Ended-clause-alters : goal.returns-in-Ended-clause-alters
returns-in-Ended-clause-alters g c = alters_none g.C.Context.conduct g.met.C.Context.is_motion c.args.self.now.contexts

pub returns-in-Lost-clause-alters : goal.returns-in-Lost-clause-alters
returns-in-Lost-clause-alters g c = alters_none g.C.Context.conduct g.met.C.Context.is_motion c.args.self.now.contexts

pub returns-in-Tick-clause-alters : goal.returns-in-Tick-clause-alters
returns-in-Tick-clause-alters g c = alters_none g.C.Context.conduct g.met.C.Context.is_motion c.args.self.now.contexts

pub returns-in-Edit-clause-happens : goal.returns-in-Edit-clause-happens
returns-in-Edit-clause-happens g c =
    let theory = theory_of g.C.HasContextPath.path_of g.C.Context.conduct g.W.Words.draws in
    edits_happen_so theory c.edit.result (state_of c.args.self.now) (state_of c.edit.new.self) (happening_of c.args.happening) c.in-Edit.context.now
    c.in-Edit.edit.now c.args.output.now c.edit.new.output (ap happening_of c.in-Edit.is) c.edit.ensures.edits

pub returns-in-Opened-clause-happens : goal.returns-in-Opened-clause-happens
returns-in-Opened-clause-happens g c =
    let theory = theory_of g.C.HasContextPath.path_of g.C.Context.conduct g.W.Words.draws in
    opens_so theory (state_of c.args.self.now) c.open.result (happening_of c.args.happening) c.in-Opened.connection (connections_of c.open.new.self)
    c.args.output.now (ap happening_of c.in-Opened.is) c.open.ensures

pub returns-in-Ended-clause-happens : goal.returns-in-Ended-clause-happens
returns-in-Ended-clause-happens g c =
    let theory = theory_of g.C.HasContextPath.path_of g.C.Context.conduct g.W.Words.draws in (
      closing,
      ends theory (state_of c.args.self.now) (happening_of c.args.happening) c.in-Ended.connection (connections_of c.forget.new.self)
          (ap happening_of c.in-Ended.is) c.forget.ensures,
      adds_closing g.row.C.Denot c.args.output.now,
    )

pub returns-in-Lost-clause-happens : goal.returns-in-Lost-clause-happens
returns-in-Lost-clause-happens g c =
    let theory = theory_of g.C.HasContextPath.path_of g.C.Context.conduct g.W.Words.draws in (
      nothing,
      loses theory (state_of c.args.self.now) (happening_of c.args.happening) c.in-Lost.connection (connections_of c.forget-in-Lost.new.self)
          (ap happening_of c.in-Lost.is) c.forget-in-Lost.ensures,
      adds_nothing g.row.C.Denot c.args.output.now,
    )

pub returns-in-Tick-clause-happens : goal.returns-in-Tick-clause-happens
returns-in-Tick-clause-happens g c =
    let theory = theory_of g.C.HasContextPath.path_of g.C.Context.conduct g.W.Words.draws in (
      nothing,
      ticks theory (state_of c.args.self.now) (happening_of c.args.happening) c.in-Tick.moment (ap happening_of c.in-Tick.is),
      adds_nothing g.row.C.Denot c.args.output.now,
    )

pub returns-in-Opened-clause-breaks : goal.returns-in-Opened-clause-breaks
returns-in-Opened-clause-breaks g c =
    let theory = theory_of g.C.HasContextPath.path_of g.C.Context.conduct g.W.Words.draws in
    let state = state_of c.args.self.now in
    not_begun_if theory state c.open.result (happening_of c.args.happening) state.world (if_err c.open.result refl)

pub returns-in-Piece-clause-breaks : goal.returns-in-Piece-clause-breaks
returns-in-Piece-clause-breaks g c =
    let theory = theory_of g.C.HasContextPath.path_of g.C.Context.conduct g.W.Words.draws in
    broken_off theory (state_of c.args.self.now) c.take_piece.result (happening_of c.args.happening) c.in-Piece.connection c.in-Piece.bytes.now _
    (state_of c.take_piece.new.self).world (ap happening_of c.in-Piece.is) c.take_piece.ensures.breaks

pub returns-in-Edit-clause-breaks : goal.returns-in-Edit-clause-breaks
returns-in-Edit-clause-breaks g c =
    let theory = theory_of g.C.HasContextPath.path_of g.C.Context.conduct g.W.Words.draws in
    not_begun_if theory (state_of c.args.self.now) c.edit.result (happening_of c.args.happening) (state_of c.edit.new.self).world c.edit.ensures.refused
