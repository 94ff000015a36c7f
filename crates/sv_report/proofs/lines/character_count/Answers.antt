use Rattle.std.proofs.Common.{rules}
use Rattle.std.proofs.lemmas.Str.{chars_from_encodes}
use Rattle.sv_report.proofs.lines.character_count.Goals as goal

pub returns : goal.returns
returns c = search (rules, chars_from_encodes)
