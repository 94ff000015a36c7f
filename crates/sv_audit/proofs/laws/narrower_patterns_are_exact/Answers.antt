use Rattle.sv_audit.proofs.NarrowerLemmas.{complete, sound}
use Rattle.sv_audit.proofs.laws.narrower_patterns_are_exact.Goals as goal

pub returns-clause-complete : goal.returns-clause-complete
returns-clause-complete c = complete c.best_is_a_match.ensures

pub returns-clause-sound : goal.returns-clause-sound
returns-clause-sound c = sound
