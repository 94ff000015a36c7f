use Rattle.std.proofs.Common.{◌≡◌, ◌++◌, ◌||◌, ℕ, List, length, subst}
use Rattle.sv_run.proofs.Handling.{answers_and_logs}
use Rattle.sv_run.proofs.answers.answer_itself.Goals as goal
use Rattle.sv_run.specs.Output.{Growth, growth_of}
use Rattle.sv_run.specs.Items.{IsTextAt, closes_behind}

pub returns : goal.returns
returns g c =
    let middle : Growth = growth_of c.note.new.output in
    let sends = subst (λ head_only. (text : List ℕ) × IsTextAt c.args.date.now c.args.response.now head_only c.args.message.now.keep text × (c.in_ok-sent.sent ≡ length text)
    × (growth_of c.send.new.output ≡ record middle { sends = middle.sends ++ text; closes = middle.closes || closes_behind c.args.message.now c.args.response.now }))
    c.is_head.ensures c.in_ok-sent.ensures in
    answers_and_logs g.row.C.Denot c.args.date.now c.args.message.now (growth_of c.args.output.now) c.log_own.result c.args.entry c.args.response.now
    middle (growth_of c.send.new.output) (growth_of c.log_own.new.output) sends.0 c.in_ok-sent.sent c.in_ok-note.ensures sends.1 sends.2 sends.3 c.log_own.ensures
