use Rattle.std.proofs.Common.{◌≡◌, ◌<◌, ◌-◌, List, length, IfErr, IfOk, Some, slice_get, slice_set, subst, sym, ap, ◌∙◌}
use Rattle.sv_run.specs.Contexts.{theory_of}
use Rattle.sv_run.specs.Events.{MovesAll}
use Rattle.sv_run.specs.Messages.{Within}
use Rattle.sv_run.specs.Output.{Growth, growth_of}
use Rattle.sv_run.proofs.Contexts.{if_err, moves_next, moves_none, paths_kept}
use Rattle.sv_run.proofs.Handling.{AnswersMessage, entries_behind, sent, sent_by_reply, there_at}
use Rattle.sv_run.specs.declared.reply.Reply.{Reply as ReplyTo}
use Rattle.sv_run.proofs.HostBreaking.{Broken, cut_at, none_given, unsent}
use Rattle.sv_run.proofs.indexed_contexts.Indexed.handle_at.Goals as goal

pub handle-requires : goal.handle-requires
handle-requires g c =
    let old = c.index_mut-context.result.now in
    let within = subst (λ (cs : List g.row.C.Denot). c.args.place < length cs) (sym c.self.view_is) c.requires.there in
    c.requires.serves old (subst (λ (cs : List g.row.C.Denot). slice_get cs c.args.place ≡ Some old) c.self.view_is
    (there_at c.self.inside.contexts.items c.args.place old within c.index_mut-context.ensures.value))

pub invariant_of-self : goal.invariant_of-self
invariant_of-self g c =
    let conduct = g.C.Context.conduct in
    let held = c.self.inside.contexts.items in
    let within = subst (λ (cs : List g.row.C.Denot). c.args.place < length cs) (sym c.self.view_is) c.requires.there in
    c.self.invariant ∙ sym (paths_kept conduct g.C.HasContextPath.path_of g.met.C.Context.keeps_path held (slice_set held c.args.place c.handle.new.self)
    (moves_next conduct g.met.C.Context.is_motion c.args.place held held c.index_mut-context.result.now c.handle.new.self within c.index_mut-context.ensures.value
    (moves_none conduct g.met.C.Context.is_motion held) c.handle.ensures.moves))

pub invariant_of-self-2 : goal.invariant_of-self-2
invariant_of-self-2 g c =
    let conduct = g.C.Context.conduct in
    let held = c.self.inside.contexts.items in
    let within = subst (λ (cs : List g.row.C.Denot). c.args.place < length cs) (sym c.self.view_is) c.requires.there in
    rw c.recycle.ensures
    (c.self.invariant ∙ sym (paths_kept conduct g.C.HasContextPath.path_of g.met.C.Context.keeps_path held (slice_set held c.args.place c.handle.new.self)
    (moves_next conduct g.met.C.Context.is_motion c.args.place held held c.index_mut-context.result.now c.handle.new.self within c.index_mut-context.ensures.value
    (moves_none conduct g.met.C.Context.is_motion held) c.handle.ensures.moves)))

pub returns-in_err-response-clause-moves : goal.returns-in_err-response-clause-moves
returns-in_err-response-clause-moves g c =
    let conduct = g.C.Context.conduct in
    let held = c.self.inside.contexts.items in
    let within = subst (λ (cs : List g.row.C.Denot). c.args.place < length cs) (sym c.self.view_is) c.requires.there in
    subst (λ before. MovesAll conduct before (slice_set held c.args.place c.handle.new.self)) c.self.view_is
    (moves_next conduct g.met.C.Context.is_motion c.args.place held held c.index_mut-context.result.now c.handle.new.self within c.index_mut-context.ensures.value
    (moves_none conduct g.met.C.Context.is_motion held) c.handle.ensures.moves)

pub returns-clause-moves : goal.returns-clause-moves
returns-clause-moves g c =
    let conduct = g.C.Context.conduct in
    let held = c.self.inside.contexts.items in
    let within = subst (λ (cs : List g.row.C.Denot). c.args.place < length cs) (sym c.self.view_is) c.requires.there in
    rw c.recycle.ensures
    (subst (λ before. MovesAll conduct before (slice_set held c.args.place c.handle.new.self)) c.self.view_is
    (moves_next conduct g.met.C.Context.is_motion c.args.place held held c.index_mut-context.result.now c.handle.new.self within c.index_mut-context.ensures.value
    (moves_none conduct g.met.C.Context.is_motion held) c.handle.ensures.moves))

pub returns-clause-responds : goal.returns-clause-responds
returns-clause-responds g c =
    let theory = theory_of g.C.HasContextPath.path_of g.C.Context.conduct g.W.Words.draws in
    let held = c.self.inside.contexts.items in
    let within = subst (λ (cs : List g.row.C.Denot). c.args.place < length cs) (sym c.self.view_is) c.requires.there in
    let handled = rw c.moment.ensures at c.in_ok-response.ensures.handles in
    let start = growth_of c.args.output.now in
    let middle : Growth = record start { journal = c.handle.new.journal } in
    rw c.recycle.ensures
    (subst (λ (before : List g.row.C.Denot). IfOk c.send-sent.result (λ _. AnswersMessage theory c.args.date.now (Within c.args.place c.args.canon.now) c.args.message.now
    c.args.words before (slice_set held c.args.place c.handle.new.self) start (growth_of c.send-sent.new.output))) c.self.view_is
    (sent theory c.args.date.now c.args.message.now c.args.words held start c.args.place c.args.canon.now c.index_mut-context.result.now c.handle.new.self
    c.in_ok-response.response handled.0 within c.index_mut-context.ensures.value handled.1 middle (λ i. record start { journal = handled.2 i })
    c.send-sent.result (growth_of c.send-sent.new.output) (length c.handle.new.journal.entries - c.in_ok-reply.reply.noted)
    (entries_behind c.args.output.now.journal c.handle.new.journal handled.0 c.in_ok-reply.reply.noted handled.2 (ap (λ (r : ReplyTo). r.noted) c.in_ok-reply.ensures))
    (sent_by_reply theory.conduct c.args.date.now c.args.message.now held c.args.place c.index.result.now c.index_mut-context.result.now c.args.output.now c.in_ok-reply.reply
    c.in_ok-response.response middle (growth_of c.send-sent.new.output) c.send-sent.result (length c.handle.new.journal.entries - c.in_ok-reply.reply.noted)
    within c.index.ensures c.index_mut-context.ensures.value c.in_ok-reply.ensures c.send-sent.ensures)))

pub returns-in_err-response-clause-breaks : goal.returns-in_err-response-clause-breaks
returns-in_err-response-clause-breaks g c =
    let theory = theory_of g.C.HasContextPath.path_of g.C.Context.conduct g.W.Words.draws in
    let held = c.self.inside.contexts.items in
    let within = subst (λ (cs : List g.row.C.Denot). c.args.place < length cs) (sym c.self.view_is) c.requires.there in
    if_err c.from_residual-in_err-response.result
    (subst (λ (before : List g.row.C.Denot). Broken theory c.args.date.now c.args.message.now c.args.words before (Within c.args.place c.args.canon.now)
    (slice_set held c.args.place c.handle.new.self)) c.self.view_is
    (cut_at theory c.args.date.now c.args.message.now c.args.words held c.args.place c.args.canon.now c.index_mut-context.result.now c.handle.new.self within
    c.index_mut-context.ensures.value (rw c.moment.ensures at c.in_err-response.ensures.cut_short)))

pub returns-clause-breaks : goal.returns-clause-breaks
returns-clause-breaks g c =
    let theory = theory_of g.C.HasContextPath.path_of g.C.Context.conduct g.W.Words.draws in
    let held = c.self.inside.contexts.items in
    let within = subst (λ (cs : List g.row.C.Denot). c.args.place < length cs) (sym c.self.view_is) c.requires.there in
    let handled = rw c.moment.ensures at c.in_ok-response.ensures.handles in
    rw c.recycle.ensures
    (subst (λ (before : List g.row.C.Denot). IfErr c.send-sent.result (λ _. Broken theory c.args.date.now c.args.message.now c.args.words before
    (Within c.args.place c.args.canon.now) (slice_set held c.args.place c.handle.new.self))) c.self.view_is
    (unsent theory c.args.date.now c.args.message.now c.args.words held c.args.place c.args.canon.now c.index_mut-context.result.now c.handle.new.self within
    c.index_mut-context.ensures.value c.send-sent.result c.in_ok-response.response handled.0 handled.1))

pub returns-in_err-reply-clause-moves : goal.returns-in_err-reply-clause-moves
returns-in_err-reply-clause-moves g c = moves_none g.C.Context.conduct g.met.C.Context.is_motion c.args.self.now

pub returns-in_err-reply-clause-breaks : goal.returns-in_err-reply-clause-breaks
returns-in_err-reply-clause-breaks g c =
    let theory = theory_of g.C.HasContextPath.path_of g.C.Context.conduct g.W.Words.draws in
    if_err c.from_residual.result (none_given theory c.args.date.now c.args.message.now c.args.words c.args.self.now (Within c.args.place c.args.canon.now))
