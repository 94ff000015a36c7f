use Rattle.sv_audit.proofs.ExampleLemmas.{all_read_back, examples_right}
use Rattle.sv_audit.proofs.laws.examples_are_right.Goals as goal

pub returns-clause-right : goal.returns-clause-right
returns-clause-right c = examples_right c.canonical_has_shape.ensures

pub returns-clause-reachable : goal.returns-clause-reachable
returns-clause-reachable c = all_read_back c.location_is_read_back.ensures
