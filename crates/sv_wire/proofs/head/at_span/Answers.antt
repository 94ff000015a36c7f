use Rattle.std.proofs.Common.{sym}
use Rattle.std.proofs.lemmas.Slice.{between_is}
use Rattle.sv_wire.proofs.head.at_span.Goals as goal

pub returns : goal.returns
returns c = rw (c.advance.ensures, c.truncate.ensures) (sym (between_is c.args.text c.args.span.start c.args.span.end))
