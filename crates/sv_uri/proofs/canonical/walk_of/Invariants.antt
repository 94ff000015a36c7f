use Rattle.std.specs.Option.{option_copied}
use Rattle.sv_uri.proofs.AnswerLemmas.{HasRead, size_of_rest}
use Rattle.sv_uri.proofs.canonical.walk_of.Given as goal

abbrev pub invariant-loop-rest : goal.invariant-loop-rest
invariant-loop-rest l = HasRead l.walk l.path (option_copied l.rest)

abbrev pub decreases-loop-rest : goal.decreases-loop-rest
decreases-loop-rest l = size_of_rest (option_copied l.rest)
