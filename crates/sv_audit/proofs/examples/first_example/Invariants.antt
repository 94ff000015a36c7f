use Rattle.std.proofs.Common.{◌≡◌, drop, find}
use Rattle.std.specs.Option.{option_copied}
use Rattle.sv_audit.specs.Examples.{is_example}
use Rattle.sv_audit.proofs.examples.first_example.Given as goal

abbrev pub invariant-loop-candidate : goal.invariant-loop-candidate
invariant-loop-candidate l = find (is_example l.patterns l.others (option_copied l.fn.pattern)) l.candidates ≡ find (is_example l.patterns l.others (option_copied l.fn.pattern)) (drop l.candidate-index l.candidates)
