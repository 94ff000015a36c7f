use Rattle.std.proofs.Common.{ℕ, List, ◌++◌, ap, append_assoc, codes, refl, sym, ◌∙◌}
use Rattle.sv_arguments.proofs.Joining.{joined}
use Rattle.sv_arguments.proofs.control_usage.rule_line.Goals as goal
use Rattle.sv_program.specs.Shown.{quoted}

pub returns : goal.returns
returns c =
    c.from_string.ensures ∙ c.in_ok-format.ensures.ok
    ∙ joined (codes "  ") c.args.word.now (codes " does not take ") (quoted c.args.argument.now ++ (codes "; " ++ c.args.rule.now))
    c.args.word.now (c.in_ok-argument.argument ++ (codes "; " ++ c.args.rule.now)) refl
    (ap (λ (text : List ℕ). text ++ (codes "; " ++ c.args.rule.now)) c.in_ok-argument.ensures)
    ∙ sym (append_assoc (codes "  " ++ c.args.word.now ++ codes " does not take ") (quoted c.args.argument.now) (codes "; " ++ c.args.rule.now))
    ∙ sym (append_assoc (codes "  " ++ c.args.word.now ++ codes " does not take " ++ quoted c.args.argument.now) (codes "; ") c.args.rule.now)
