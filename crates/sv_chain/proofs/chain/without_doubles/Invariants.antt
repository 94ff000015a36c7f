use Rattle.std.proofs.Common.{◌≡◌, take}
use Rattle.sv_chain.specs.FilterChain.{without_doubles}
use Rattle.sv_chain.proofs.chain.without_doubles.Given as goal

abbrev pub invariant-loop-place : goal.invariant-loop-place
invariant-loop-place l = l.chain.items ≡ without_doubles (take l.place-index l.places)
