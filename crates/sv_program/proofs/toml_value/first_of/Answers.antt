use Rattle.std.proofs.Common.{arith, sym, take_all}
use Rattle.std.proofs.lemmas.List.{length-take-le}
use Rattle.sv_program.proofs.toml_value.first_of.Goals as goal

pub slice_bounds-result-end : goal.slice_bounds-result-end
slice_bounds-result-end c = sym (length-take-le _ c.args.characters.now (omega (arith, c.if-characters-gt-MAX_SHOWN_CHARACTERS.true)))

pub returns : goal.returns
returns c = sym (take_all _ c.args.characters.now c.if-characters-gt-MAX_SHOWN_CHARACTERS.false)
