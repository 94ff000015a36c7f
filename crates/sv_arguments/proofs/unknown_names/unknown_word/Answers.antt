use Rattle.std.proofs.Common.{ℕ, List, Option, ap, codes, map, ◌∙◌}
use Rattle.sv_arguments.proofs.Joining.{joined}
use Rattle.sv_arguments.proofs.unknown_names.unknown_word.Goals as goal
use Rattle.sv_arguments.specs.Near.{near}
use Rattle.sv_arguments.specs.UnknownNames.{hint}
use Rattle.sv_program.specs.Shown.{quoted}

pub returns : goal.returns
returns c =
    let known = map (λ name. name.now) c.args.known.now in
    c.from_string.ensures ∙ c.in_ok-format.ensures.ok
    ∙ joined (codes "  there is no command ") (quoted c.args.word.now) (codes "; ")
    (hint (near known c.args.word.now) (codes "\"sv help\" lists the commands")) c.in_ok-word.word c.in_ok-hint.hint
    c.in_ok-word.ensures
    (c.in_ok-hint.ensures ∙ ap (λ (name : Option (List ℕ)). hint name (codes "\"sv help\" lists the commands")) c.in_ok-name.ensures)
