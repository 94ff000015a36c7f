use Rattle.sv_descriptor.proofs.Yields.{document-Ok}
use Rattle.sv_descriptor.specs.Users.{AreWellFormedUsers, located_users, users}
use Rattle.sv_descriptor.proofs.Settings.{users-Ok}
use Rattle.sv_descriptor.proofs.users.read_located_users.Goals as goal

pub returns-clause-well_formed : goal.returns-clause-well_formed
unfolding located_users
returns-clause-well_formed c = rw c.into_vec.ensures (document-Ok AreWellFormedUsers users users-Ok c.args.text.now _ c.in_ok-users.ensures)
