use Rattle.sv_run.specs.Contexts.{theory_of}
use Rattle.sv_listening.proofs.Pieces as lemmas
use Rattle.sv_listening.proofs.bounds.an_event_sends_little.Goals as goal

pub returns : goal.returns
returns g c = lemmas.an_event_sends_little (theory_of g.C.HasContextPath.path_of g.C.Context.conduct g.W.Words.draws)
