use Rattle.sv_run.proofs.Handling.{answered_as}
use Rattle.sv_run.proofs.answers.answer_bad_path.Goals as goal
use Rattle.sv_run.specs.Output.{growth_of}
use Rattle.sv_journal.specs.declared.entry.Entry.TheVariants as entries
use Rattle.sv_journal.specs.declared.refusal_cause.RefusalCause.TheVariants as causes
use Rattle.sv_run.specs.Messages.{plain_response}

pub returns : goal.returns
returns g c =
    answered_as g.row.C.Denot c.args.date.now c.args.message.now (growth_of c.args.output.now) c.answer_itself.result (entries.Refused (causes.Path c.args.fault)) c.in_ok-response.response
    (plain_response 400) (growth_of c.answer_itself.new.output) c.in_ok-response.ensures c.answer_itself.ensures
