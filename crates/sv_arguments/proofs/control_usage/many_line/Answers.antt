use Rattle.std.proofs.Common.{ℕ, List, ◌++◌, ap, append_assoc, codes, refl, sym, ◌∙◌}
use Rattle.sv_arguments.proofs.Joining.{joined}
use Rattle.sv_arguments.proofs.control_usage.many_line.Goals as goal
use Rattle.sv_arguments.specs.ControlUsage.{usage_after}
use Rattle.sv_program.specs.Shown.{quoted}

pub returns : goal.returns
returns c =
    c.from_string.ensures ∙ c.in_ok-format.ensures.ok
    ∙ joined (codes "  ") c.args.word.now (codes " does not take ") (quoted c.args.argument.now ++ usage_after c.args.known)
    c.args.word.now (c.in_ok-argument.argument ++ c.in_ok-hint.hint) refl
    (ap (λ (text : List ℕ). text ++ c.in_ok-hint.hint) c.in_ok-argument.ensures
    ∙ ap (λ (text : List ℕ). quoted c.args.argument.now ++ text) c.in_ok-hint.ensures)
    ∙ sym (append_assoc (codes "  " ++ c.args.word.now ++ codes " does not take ") (quoted c.args.argument.now) (usage_after c.args.known))
