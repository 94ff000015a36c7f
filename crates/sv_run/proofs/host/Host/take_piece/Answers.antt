use Rattle.std.proofs.Common.{refl, sym, ◌∙◌}
use Rattle.sv_run.specs.Connections.{connections_of}
use Rattle.sv_run.specs.Contexts.{theory_of}
use Rattle.sv_run.specs.State.{world_of}
use Rattle.sv_run.proofs.Adding.{adds_closes}
use Rattle.sv_run.proofs.HostBreaking.{broken_piece, none_read}
use Rattle.sv_run.proofs.Contexts.{if_err, moves_none}
use Rattle.sv_run.proofs.HostHappening.{fed_known, takes_closing, takes_open}
use Rattle.sv_run.specs.Host.{state_of}
use Rattle.sv_run.proofs.host.Host.take_piece.Goals as goal

pub returns-in_err-feed-clause-moves : goal.returns-in_err-feed-clause-moves
returns-in_err-feed-clause-moves g c = moves_none g.C.Context.conduct g.met.C.Context.is_motion c.args.self.now.contexts

pub close-requires : goal.close-requires
close-requires g c =
    fed_known (connections_of c.args.self.now.connections) (connections_of c.feed.new.self) c.args.number c.args.piece.now c.feed.new.items.items
    c.in_ok-feed.ensures

pub returns-then-not-output-clause-takes : goal.returns-then-not-output-clause-takes
returns-then-not-output-clause-takes g c =
    let theory = theory_of g.C.HasContextPath.path_of g.C.Context.conduct g.W.Words.draws in
    let host = c.args.self.now in
    let reached = world_of c.take_items.new.contexts c.take_items.new.words in
    let taken = c.in_ok-take_items.ensures.takes in (
      taken.0,
      takes_open theory (state_of host) c.args.number c.args.piece.now c.feed.new.items.items (connections_of c.feed.new.self)
          (connections_of c.feed.new.self) reached taken.0 c.in_ok-feed.ensures
          taken.1 refl
          (sym (adds_closes c.args.output.now c.take_items.new.output taken.0 taken.2 c.requires.unclosed) ∙ c.if-not-output.true),
      taken.2,
    )

pub returns-clause-takes : goal.returns-clause-takes
returns-clause-takes g c =
    let theory = theory_of g.C.HasContextPath.path_of g.C.Context.conduct g.W.Words.draws in
    let host = c.args.self.now in
    let reached = world_of c.take_items.new.contexts c.take_items.new.words in
    let taken = c.in_ok-take_items.ensures.takes in (
      taken.0,
      takes_closing theory (state_of host) c.args.number c.args.piece.now c.feed.new.items.items (connections_of c.feed.new.self)
          (connections_of c.close.new.self) reached taken.0 c.in_ok-feed.ensures
          taken.1 c.close.ensures
          (sym (adds_closes c.args.output.now c.take_items.new.output taken.0 taken.2 c.requires.unclosed) ∙ c.if-not-output.false),
      taken.2,
    )

pub returns-in_err-feed-clause-breaks : goal.returns-in_err-feed-clause-breaks
returns-in_err-feed-clause-breaks g c =
    none_read (theory_of g.C.HasContextPath.path_of g.C.Context.conduct g.W.Words.draws) (state_of c.args.self.now) _ c.args.number c.args.piece.now

pub returns-in_err-take_items-clause-breaks : goal.returns-in_err-take_items-clause-breaks
returns-in_err-take_items-clause-breaks g c =
    let theory = theory_of g.C.HasContextPath.path_of g.C.Context.conduct g.W.Words.draws in
    let host = c.args.self.now in
    let reached = world_of c.take_items.new.contexts c.take_items.new.words in
    if_err _
    (broken_piece theory (state_of host) c.args.number c.args.piece.now c.feed.new.items.items (connections_of c.feed.new.self) reached c.in_ok-feed.ensures
    c.in_err-take_items.ensures.breaks)
