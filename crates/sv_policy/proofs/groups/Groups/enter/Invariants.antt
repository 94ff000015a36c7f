use Rattle.std.proofs.Common.{◌≡◌, ℕ, List, [], ◌∷◌, ◌++◌, if◌then◌else◌, map, take}
use Rattle.sv_constraints.specs.Covering.{lists}
use Rattle.sv_policy.specs.Groups.{HasPatterns, members_in}
use Rattle.sv_policy.proofs.groups.Groups.enter.Given as goal

abbrev pub invariant-loop-pattern : goal.invariant-loop-pattern
invariant-loop-pattern l = record {
  members : (q : List ℕ) → members_in l.self.members q ≡ members_in l.initial.self.members q ++ (if lists (map (λ pattern. pattern.now) (take l.pattern-index l.pattern-items)) q then l.constraint ∷ [] else []);
  patterns : HasPatterns l.initial.self → HasPatterns l.self;
}
