use Rattle.std.proofs.Common.{◌∷◌, ◌+◌, ◌==◌, take, sym, ap, ◌∙◌}
use Rattle.std.specs.List.{slice_split}
use Rattle.std.proofs.lemmas.List.{take_rest}
use Rattle.sv_web.proofs.SentLemmas.{parted, unparted}
use Rattle.sv_web.proofs.request_cookies.at_semicolon.Goals as goal

pub returns-in-Some : goal.returns-in-Some
returns-in-Some c =
    let text = c.args.text.now in
    let place = c.in-Some.place in
    parted (λ b. b == 59) text place (sym c.first_semicolon.ensures ∙ c.in-Some.is)
    ∙ ap (λ rest. take place text ∷ slice_split (λ b. b == 59) rest) (sym (take_rest text (place + 1)))

pub returns-in-None : goal.returns-in-None
returns-in-None c = unparted (λ b. b == 59) c.args.text.now (sym c.first_semicolon.ensures ∙ c.in-None.is)
