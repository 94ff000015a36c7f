use Rattle.std.proofs.Common.{sym, ap, ◌∙◌}
use Rattle.sv_journal.specs.declared.entry.Entry.TheVariants.{Hidden}
use Rattle.sv_journal.specs.declared.refusal_cause.RefusalCause.TheVariants as causes
use Rattle.sv_run.specs.Contexts.{theory_of}
use Rattle.sv_run.specs.Messages.{Itself, Within, destination_in, place_for, plain_response}
use Rattle.sv_run.proofs.HostBreaking.{broken_to, none_given_if}
use Rattle.sv_run.proofs.Contexts.{moves_none}
use Rattle.sv_run.proofs.Handling.{answers_itself, sent_to}
use Rattle.sv_run.specs.Output.{growth_of}
use Rattle.sv_run.proofs.messages.respond_at.Goals as goal

pub returns-in-None-clause-moves : goal.returns-in-None-clause-moves
returns-in-None-clause-moves g c = moves_none g.C.Context.conduct g.met.C.Context.is_motion c.args.contexts.now

pub returns-in-Some-clause-responds : goal.returns-in-Some-clause-responds
returns-in-Some-clause-responds g c =
    let theory = theory_of g.C.HasContextPath.path_of g.C.Context.conduct g.W.Words.draws in
    let before = c.args.contexts.now in
    let canon = c.args.canon.now in
    sent_to theory c.args.date.now c.args.message.now c.args.words before (growth_of c.args.output.now) c.handle_at.result
    (destination_in canon (place_for theory before canon.path)) (Within c.in-Some.place canon) c.handle_at.new.self (growth_of c.handle_at.new.output)
    (ap (destination_in canon) (ap (place_for theory before) (sym c.as_str.ensures) ∙ sym c.place.ensures.chosen ∙ c.in-Some.is)) c.handle_at.ensures.responds

pub returns-in-None-clause-responds : goal.returns-in-None-clause-responds
returns-in-None-clause-responds g c =
    let theory = theory_of g.C.HasContextPath.path_of g.C.Context.conduct g.W.Words.draws in
    let before = c.args.contexts.now in
    let canon = c.args.canon.now in
    sent_to theory c.args.date.now c.args.message.now c.args.words before (growth_of c.args.output.now) c.answer_hidden.result
    (destination_in canon (place_for theory before canon.path)) (Itself (Hidden causes.NoContext) (plain_response 404)) before
    (growth_of c.answer_hidden.new.output) (ap (destination_in canon) (ap (place_for theory before) (sym c.as_str.ensures) ∙ sym c.place.ensures.chosen ∙ c.in-None.is))
    (answers_itself theory c.args.date.now c.args.message.now c.args.words before (growth_of c.args.output.now) c.answer_hidden.result
    (Hidden causes.NoContext) (plain_response 404) (growth_of c.answer_hidden.new.output) c.answer_hidden.ensures)

pub returns-in-Some-clause-breaks : goal.returns-in-Some-clause-breaks
returns-in-Some-clause-breaks g c =
    let theory = theory_of g.C.HasContextPath.path_of g.C.Context.conduct g.W.Words.draws in
    let before = c.args.contexts.now in
    let canon = c.args.canon.now in
    broken_to theory c.args.date.now c.args.message.now c.args.words before c.handle_at.result
    (destination_in canon (place_for theory before canon.path)) (Within c.in-Some.place canon) c.handle_at.new.self
    (ap (destination_in canon) (ap (place_for theory before) (sym c.as_str.ensures) ∙ sym c.place.ensures.chosen ∙ c.in-Some.is)) c.handle_at.ensures.breaks

pub returns-in-None-clause-breaks : goal.returns-in-None-clause-breaks
returns-in-None-clause-breaks g c =
    let theory = theory_of g.C.HasContextPath.path_of g.C.Context.conduct g.W.Words.draws in
    none_given_if theory c.args.date.now c.args.message.now c.args.words c.args.contexts.now c.answer_hidden.result
    (destination_in c.args.canon.now (place_for theory c.args.contexts.now c.args.canon.now.path))
