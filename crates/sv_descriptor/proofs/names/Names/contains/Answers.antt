use Rattle.std.proofs.Common.{◌∙◌}
use Rattle.sv_descriptor.proofs.Sets.{list_any-is_at}
use Rattle.sv_descriptor.proofs.names.Names.contains.Goals as goal

pub returns : goal.returns
returns c = c.contains.ensures ∙ rw (← c.self.view_is) (list_any-is_at c.args.name.now c.self.inside.set.keys)
