use Rattle.std.proofs.Common.{ℕ, List, Option, ap, codes, ◌∙◌}
use Rattle.sv_arguments.proofs.Joining.{joined}
use Rattle.sv_arguments.proofs.control_usage.unknown_line.Goals as goal
use Rattle.sv_arguments.specs.ControlUsage.{word_names}
use Rattle.sv_arguments.specs.Near.{near}
use Rattle.sv_arguments.specs.UnknownNames.{hint}
use Rattle.sv_program.specs.Shown.{quoted}

pub returns : goal.returns
returns c =
    c.from_string.ensures ∙ c.in_ok-format.ensures.ok
    ∙ joined (codes "  ctl has no word ") (quoted c.args.word.now) (codes "; ")
    (hint (near word_names c.args.word.now) (codes "it knows status, constraints, uncovered, explain, append, withdraw, stop"))
    c.in_ok-word.word c.in_ok-hint.hint c.in_ok-word.ensures
    (c.in_ok-hint.ensures
    ∙ ap (λ (name : Option (List ℕ)). hint name (codes "it knows status, constraints, uncovered, explain, append, withdraw, stop")) c.in_ok-name.ensures)
