use Rattle.std.proofs.Common.{refl}
use Rattle.sv_descriptor.proofs.SchemaTables.{keys-members_view}
use Rattle.sv_descriptor.proofs.table.only_keys.Goals as goal

pub loop-key-init : goal.loop-key-init
loop-key-init c = rw (c.into_iter-key-iterator.ensures.into_iter_gives, c.keys-key-items.ensures.rest, keys-members_view) refl
