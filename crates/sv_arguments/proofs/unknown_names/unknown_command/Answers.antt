use Rattle.std.proofs.Common.{ℕ, List, ap, map, subst, ◌∙◌}
use Rattle.sv_arguments.proofs.Joining.{more_items}
use Rattle.sv_arguments.specs.Topics.{topic_names}
use Rattle.sv_arguments.specs.UnknownNames.{unknown_word}
use Rattle.sv_text.specs.Gives.{GivesAnswer}
use Rattle.sv_arguments.proofs.unknown_names.unknown_command.Goals as goal

pub returns : goal.returns
returns c =
    subst (λ (names : List (List ℕ)). GivesAnswer c.unknown_word.result (unknown_word names c.args.word.now))
    (ap (map (λ name. name.now)) (c.as_slice.ensures.value ∙ c.in_ok-extend_from_slice.ensures.items)
    ∙ more_items (λ name. name.now) c.in_ok-names.names.items _ topic_names c.in_ok-names.ensures)
    c.unknown_word.ensures
