use Rattle.sv_uri.proofs.AnswerLemmas.{names_are_texts}
use Rattle.sv_uri.proofs.canonical.canonical_path.Goals as goal

pub path-requires : goal.path-requires
path-requires c = names_are_texts c.in_ok-walk.walk _ c.in_ok-walk.ensures.0 c.in_ok-walk.ensures.1
