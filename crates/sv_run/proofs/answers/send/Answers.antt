use Rattle.std.proofs.Common.{◌||◌, refl}
use Rattle.sv_wire.specs.ResponseText.{response_text}
use Rattle.sv_run.proofs.Handling.{counted_behind}
use Rattle.sv_run.proofs.answers.send.Goals as goal

pub returns : goal.returns
returns c =
    let wrote = c.in_ok-send_response.ensures.text in
    let text = response_text c.args.response.now c.args.head_only c.args.keep wrote.0 in (
      text,
      (wrote.0, wrote.1, refl),
      counted_behind c.args.output.now.sends text _ _ _ c.len-before.ensures c.len.ensures wrote.2,
      λ i. record {
        sends = wrote.2 i;
        closes = c.args.output.now.closes || c.closes_behind.ensures i;
        journal = c.args.output.now.journal;
        edited = c.args.output.now.edited;
        logs = c.args.output.now.logs;
        accesses = c.args.output.now.accesses.items;
      },
    )
