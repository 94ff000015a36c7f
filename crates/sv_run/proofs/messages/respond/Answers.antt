use Rattle.std.proofs.Common.{sym}
use Rattle.sv_journal.specs.declared.entry.Entry.TheVariants.{Refused}
use Rattle.sv_journal.specs.declared.refusal_cause.RefusalCause.TheVariants as causes
use Rattle.sv_run.specs.Contexts.{theory_of}
use Rattle.sv_run.specs.Messages.{Itself, destination, empty_response, plain_response}
use Rattle.sv_run.proofs.HostBreaking.{none_given, none_given_if}
use Rattle.sv_run.proofs.Contexts.{moves_none}
use Rattle.sv_run.proofs.Handling.{answers_itself, at_fault, at_star, same_fault, sent_to}
use Rattle.sv_run.specs.Output.{growth_of}
use Rattle.sv_run.proofs.messages.respond.Goals as goal

pub returns-in-Star-clause-moves : goal.returns-in-Star-clause-moves
returns-in-Star-clause-moves g c = moves_none g.C.Context.conduct g.met.C.Context.is_motion c.args.contexts.now

pub returns-in-Err-Path-clause-moves : goal.returns-in-Err-Path-clause-moves
returns-in-Err-Path-clause-moves g c = moves_none g.C.Context.conduct g.met.C.Context.is_motion c.args.contexts.now

pub returns-in-Err-NoMemory-clause-moves : goal.returns-in-Err-NoMemory-clause-moves
returns-in-Err-NoMemory-clause-moves g c = moves_none g.C.Context.conduct g.met.C.Context.is_motion c.args.contexts.now

pub returns-in-Star-clause-responds : goal.returns-in-Star-clause-responds
returns-in-Star-clause-responds g c =
    let theory = theory_of g.C.HasContextPath.path_of g.C.Context.conduct g.W.Words.draws in
    let before = c.args.contexts.now in
    let message = c.args.message.now in
    sent_to theory c.args.date.now message c.args.words before (growth_of c.args.output.now) c.answer_star.result
    (destination theory before message.target) (Itself (Refused causes.Star) empty_response) before
    (growth_of c.answer_star.new.output) (at_star theory before message.target c.in-Star.is)
    (answers_itself theory c.args.date.now message c.args.words before (growth_of c.args.output.now) c.answer_star.result
    (Refused causes.Star) empty_response (growth_of c.answer_star.new.output) c.answer_star.ensures)

pub returns-in-Err-Path-clause-responds : goal.returns-in-Err-Path-clause-responds
returns-in-Err-Path-clause-responds g c =
    let theory = theory_of g.C.HasContextPath.path_of g.C.Context.conduct g.W.Words.draws in
    let before = c.args.contexts.now in
    let message = c.args.message.now in
    let reads = rw c.in-Err-Path.field-0-is at c.in-Err-Path.ensures in
    sent_to theory c.args.date.now message c.args.words before (growth_of c.args.output.now) c.answer_bad_path.result
    (destination theory before message.target) (Itself (Refused (causes.Path c.in-Err-Path.fault)) (plain_response 400)) before
    (growth_of c.answer_bad_path.new.output)
    (at_fault theory before message.target c.in-Path.target c.as_slice.result.now c.in-Err-Path.fault c.in-Path.is c.as_slice.ensures reads)
    (answers_itself theory c.args.date.now message c.args.words before (growth_of c.args.output.now) c.answer_bad_path.result
    (Refused (causes.Path c.in-Err-Path.fault)) (plain_response 400) (growth_of c.answer_bad_path.new.output)
    (same_fault theory c.args.date.now message c.args.words before (growth_of c.args.output.now) c.answer_bad_path.result
    (plain_response 400) (growth_of c.answer_bad_path.new.output) _ c.in-Err-Path.fault (sym c.in-Err-Path.fault-is)
    c.answer_bad_path.ensures))

pub returns-in-Star-clause-breaks : goal.returns-in-Star-clause-breaks
returns-in-Star-clause-breaks g c =
    let theory = theory_of g.C.HasContextPath.path_of g.C.Context.conduct g.W.Words.draws in
    none_given_if theory c.args.date.now c.args.message.now c.args.words c.args.contexts.now c.answer_star.result
    (destination theory c.args.contexts.now c.args.message.now.target)

pub returns-in-Err-Path-clause-breaks : goal.returns-in-Err-Path-clause-breaks
returns-in-Err-Path-clause-breaks g c =
    let theory = theory_of g.C.HasContextPath.path_of g.C.Context.conduct g.W.Words.draws in
    none_given_if theory c.args.date.now c.args.message.now c.args.words c.args.contexts.now c.answer_bad_path.result
    (destination theory c.args.contexts.now c.args.message.now.target)

pub returns-in-Err-NoMemory-clause-breaks : goal.returns-in-Err-NoMemory-clause-breaks
returns-in-Err-NoMemory-clause-breaks g c =
    let theory = theory_of g.C.HasContextPath.path_of g.C.Context.conduct g.W.Words.draws in
    none_given theory c.args.date.now c.args.message.now c.args.words c.args.contexts.now (destination theory c.args.contexts.now c.args.message.now.target)
