use Rattle.std.proofs.Common.{Some, ap, sym, ◌∙◌}
use Rattle.std.proofs.lemmas.Bool.{eqb-true}
use Rattle.std.proofs.lemmas.List.{nil_from_length}
use Rattle.sv_script.specs.Escape.{unescaped}
use Rattle.sv_script.proofs.EscapeLemmas.{all_read}
use Rattle.sv_script.proofs.escape.unescaped.Goals as goal

pub returns : goal.returns
returns c =
    ap Some c.from_vec.ensures
    ∙ all_read (unescaped c.args.text.now) c.loop-rest.rest.now c.loop-rest.bytes.items c.loop-rest.invariant (nil_from_length c.loop-rest.rest.now (eqb-true _ _ (sym c.loop-rest-test.ensures)))
