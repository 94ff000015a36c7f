use Rattle.std.proofs.Common.{◌≡◌, ◌∷◌, Some, sym, subst, arith}
use Rattle.std.proofs.lemmas.Grind.{common_steps}
use Rattle.std.specs.List.{slice_split}
use Rattle.std.specs.Option.{option_copied}
use Rattle.sv_script.proofs.NameLemmas.{AreRead, one_more}
use Rattle.sv_script.specs.Names.{is_comma, name_of, parts_of}
use Rattle.sv_script.proofs.names.names_of.Goals as goal

pub loop-rest-preserved : goal.loop-rest-preserved
loop-rest-preserved c =
    let all = slice_split is_comma c.args.text.now in
    let parts = parts_of (option_copied c.at_comma.result.1) in
    let front = c.at_comma.result.0.now in
    let first : parts_of (option_copied c.loop-rest.rest) ≡ front ∷ parts = grind (arith, common_steps) in
    let some : Some c.in-Some-2.name ≡ name_of c.args.kind front = grind (arith, common_steps) in
    subst (λ names. AreRead c.args.kind all names parts) (sym c.in_ok-push.ensures.items)
    (one_more c.args.kind all c.loop-rest.names.items (parts_of (option_copied c.loop-rest.rest)) parts front c.in-Some-2.name c.loop-rest.invariant first some)
