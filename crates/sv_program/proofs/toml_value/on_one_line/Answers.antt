use Rattle.std.proofs.Common.{[], ◌∙◌}
use Rattle.std.specs.List.{flat_map}
use Rattle.sv_program.specs.Shown.{line_character}
use Rattle.sv_program.proofs.Growing.{has-all, has-more}
use Rattle.sv_program.proofs.toml_value.on_one_line.Goals as goal

pub loop-character-preserved : goal.loop-character-preserved
loop-character-preserved c =
    has-more line_character [] _ _ c.args.characters.now c.loop-character.character-index c.character-item.result c.loop-character-test.true c.character-item.is c.loop-character.invariant c.in_ok-push_on_line.ensures

pub returns : goal.returns
returns c = c.from_string.ensures ∙ has-all (λ characters. flat_map line_character characters) _ c.args.characters.now c.loop-character.character-index c.loop-character.invariant c.loop-character-test.false
