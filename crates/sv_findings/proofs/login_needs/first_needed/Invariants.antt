use Rattle.std.proofs.Common.{◌≡◌, drop, map}
use Rattle.sv_findings.specs.LoginNeeds.{first_given, target_in, needed_at}
use Rattle.sv_findings.proofs.login_needs.first_needed.Given as goal

abbrev pub invariant-loop-folder : goal.invariant-loop-folder
invariant-loop-folder l =
    first_given (λ folder. needed_at l.context.reaches.now.0 l.context.reaches.now.1 l.context.constraints.now l.context.rules.now (target_in l.context.reaches.now.1 folder l.relative)) (map (λ folder. folder.now) l.folders)
    ≡ first_given (λ folder. needed_at l.context.reaches.now.0 l.context.reaches.now.1 l.context.constraints.now l.context.rules.now (target_in l.context.reaches.now.1 folder l.relative)) (map (λ folder. folder.now) (drop l.folder-index l.folders))
