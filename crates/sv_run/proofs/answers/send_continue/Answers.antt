use Rattle.std.proofs.Common.{sym, append-nil}
use Rattle.sv_run.specs.Items.{continue_text}
use Rattle.sv_run.proofs.Adding.{logs_none}
use Rattle.sv_run.proofs.Effects.{first-at_none, or-at_false}
use Rattle.sv_run.proofs.answers.send_continue.Goals as goal

pub returns : goal.returns
unfolding continue_text
returns g c =
    let output = c.args.output.now in
    λ i. record {
      sends = c.in_ok-extend_from_slice.ensures.ok i;
      closes = sym (or-at_false output.closes) i;
      journal = record output.journal { entries = sym (append-nil output.journal.entries) i };
      edited = sym (first-at_none output.edited) i;
      logs = output.logs;
      accesses = logs_none output.logs output.accesses.items i;
    }
