use Rattle.std.proofs.Common.{arith}
use Rattle.std.proofs.lemmas.Map.Text.{text_keys}
use Rattle.sv_findings.proofs.overruled.enter.Goals as goal

pub returns : goal.returns
returns c = λ text. grind (arith, text_keys)
