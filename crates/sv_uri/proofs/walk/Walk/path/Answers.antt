use Rattle.sv_uri.proofs.walk.Walk.path.Goals as goal

pub joined-requires : goal.joined-requires
joined-requires c = rw c.as_slice.ensures c.requires
