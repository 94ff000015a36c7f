use Rattle.std.proofs.Common.{ap, string_bytes, ◌++◌, ◌∙◌}
use Rattle.sv_report.proofs.FoldedLemmas.{few_bytes}
use Rattle.sv_report.proofs.folded_lines.push_line.Goals as goal

pub returns-then-line-le-LINE_WIDTH : goal.returns-then-line-le-LINE_WIDTH
returns-then-line-le-LINE_WIDTH c =
    c.in_ok-push_str.ensures.bytes ∙ ap (λ line. string_bytes c.args.text.now ++ line) (few_bytes c.args.line.now c.utf8.line c.if-line-le-LINE_WIDTH.true)
