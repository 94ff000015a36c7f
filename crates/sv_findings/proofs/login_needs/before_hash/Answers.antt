use Rattle.std.proofs.Common.{arith, sym, Some, None}
use Rattle.std.proofs.Math.Seq.{take-length}
use Rattle.std.proofs.lemmas.Str.Pattern.{split_once_first}
use Rattle.sv_findings.proofs.login_needs.before_hash.Goals as goal

pub returns-in-Some : goal.returns-in-Some
returns-in-Some c = (split_once_first 35 c.args.text.now (Some (c.in-Some.front, c.in-Some.field-0-1)) c.in-Some.ensures.cases (omega arith)).1

pub returns-in-None : goal.returns-in-None
returns-in-None c = rw (split_once_first 35 c.args.text.now None c.in-None.ensures.cases (omega arith)) (sym (take-length c.args.text.now))
