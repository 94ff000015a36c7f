use Rattle.std.proofs.Common.{◌∷◌, ◌+◌, take, sym, ap, ◌∙◌}
use Rattle.std.specs.List.{slice_split}
use Rattle.std.proofs.lemmas.List.{take_rest}
use Rattle.sv_script.proofs.NameLemmas.{parted, unparted}
use Rattle.sv_script.specs.Names.{is_comma}
use Rattle.sv_script.proofs.names.at_comma.Goals as goal

pub returns-in-Some : goal.returns-in-Some
returns-in-Some c =
    let text = c.args.text.now in
    let place = c.in-Some.place in
    parted is_comma text place (sym c.first_comma.ensures ∙ c.in-Some.is)
    ∙ ap (λ rest. take place text ∷ slice_split is_comma rest) (sym (take_rest text (place + 1)))

pub returns-in-None : goal.returns-in-None
returns-in-None c = unparted is_comma c.args.text.now (sym c.first_comma.ensures ∙ c.in-None.is)
