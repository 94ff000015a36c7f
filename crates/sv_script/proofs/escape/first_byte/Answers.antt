use Rattle.std.proofs.Common.{◌∙◌, ap, arith}
use Rattle.std.proofs.lemmas.Bool.{ne_eqb}
use Rattle.sv_script.specs.Escape.{unescaped}
use Rattle.sv_script.proofs.EscapeLemmas.{plain_first}
use Rattle.sv_script.proofs.escape.first_byte.Goals as goal

pub returns-else-first-eq92 : goal.returns-else-first-eq92
returns-else-first-eq92 c =
    (ap unescaped c.in_ok-first.ensures.cases.0 ∙ plain_first c.in_ok-first.first.now c.in_ok-first.rest.now (ne_eqb _ 92 c.if-first-eq92.false), omega (arith, c.in_ok-first.ensures.cases.1))
