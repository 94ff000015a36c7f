use Rattle.std.proofs.Common.{◌-◌, ap, map, string_bytes, sym, ◌∙◌}
use Rattle.std.proofs.lemmas.List.{take-map}
use Rattle.std.specs.List.{find}
use Rattle.sv_control_words.proofs.control_arguments.blank_argument.Goals as goal
use Rattle.sv_control_words.specs.ControlArguments.{has_blank}
use Rattle.sv_control_words.specs.ControlWord.{most}

pub returns : goal.returns
returns c =
    c.first_with_blank.ensures
    ∙ ap (λ words. find has_blank (map string_bytes words)) c.before_last.ensures
    ∙ ap (find has_blank) (sym (take-map string_bytes (most c.args.known - 1) c.args.arguments.now))
