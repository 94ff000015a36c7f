use Rattle.std.proofs.Common.{arith, sym, Some, None}
use Rattle.std.proofs.lemmas.List.{drop_all}
use Rattle.std.proofs.lemmas.Str.Pattern.{split_once_first}
use Rattle.sv_mapping.proofs.context_path.after_slash.Goals as goal

pub returns-in-Some : goal.returns-in-Some
returns-in-Some c = (split_once_first 47 c.args.text.now (Some (c.in-Some.field-0-0, c.in-Some.rest)) c.in-Some.ensures.cases (omega arith)).2

pub returns-in-None : goal.returns-in-None
returns-in-None c = rw (split_once_first 47 c.args.text.now None c.in-None.ensures.cases (omega arith)) (sym (drop_all _ c.args.text.now (omega arith)))
