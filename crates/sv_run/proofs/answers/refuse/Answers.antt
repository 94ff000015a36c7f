use Rattle.std.proofs.Common.{ap, ◌∙◌}
use Rattle.sv_run.specs.Messages.{plain_response}
use Rattle.sv_run.specs.Output.{growth_of}
use Rattle.sv_run.proofs.Handling.{refused_and_logged}
use Rattle.sv_run.proofs.answers.refuse.Goals as goal

pub returns : goal.returns
returns g c =
    let sends = c.in_ok-sent.ensures in
    refused_and_logged g.row.C.Denot c.args.date.now c.log_own.result c.args.fault c.in_ok-response.response (growth_of c.args.output.now) (growth_of c.note.new.output)
    (growth_of c.send.new.output) (growth_of c.log_own.new.output) sends.0 c.in_ok-sent.sent
    (c.in_ok-response.ensures ∙ ap plain_response c.status.ensures) c.in_ok-note.ensures sends.1 sends.2 sends.3 c.log_own.ensures
