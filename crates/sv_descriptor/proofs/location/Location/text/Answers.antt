use Rattle.sv_descriptor.proofs.Locations.{begins-is_location}
use Rattle.sv_descriptor.proofs.location.Location.text.Goals as goal

pub returns-clause-begins : goal.returns-clause-begins
returns-clause-begins c = rw c.as_str.ensures (begins-is_location c.self.inside.text c.self.invariant)
