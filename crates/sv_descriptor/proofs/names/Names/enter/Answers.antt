use Rattle.std.proofs.Common.{◌∙◌, ap, not}
use Rattle.sv_descriptor.proofs.Sets.{list_any-is_at, is_among-insert_key, seen}
use Rattle.sv_descriptor.specs.Table.{is_among}
use Rattle.sv_descriptor.proofs.names.Names.enter.Goals as goal

pub returns-clause-new : goal.returns-clause-new
returns-clause-new c = c.in_ok-insert.ensures.added ∙ ap not (rw (← c.self.view_is) (list_any-is_at c.args.name.now c.self.inside.set.keys))

pub returns-clause-entered : goal.returns-clause-entered
returns-clause-entered c = λ text. ap (λ names. is_among (seen names) text) c.in_ok-insert.ensures.keys ∙ rw (← c.self.view_is) (is_among-insert_key c.args.name c.self.inside.set.keys text)
