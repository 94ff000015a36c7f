use Rattle.std.proofs.Common.{◌≡◌, ◌<◌, length, IfOk, rules}
use Rattle.std.specs.List.{All}
use Rattle.std.proofs.lemmas.Result.{IfOk-weaker}
use Rattle.sv_chain.specs.FilterChain.{filter_chain}
use Rattle.sv_chain.proofs.Growing.{chain_in}
use Rattle.sv_chain.proofs.chain.chain_plain.Goals as goal

pub returns-clause-places : goal.returns-clause-places
returns-clause-places c =
    let chain = filter_chain c.args.descriptor.now c.args.path.now c.args.servlet.now c.args.kind in
    let exact : IfOk c.without_doubles.result (λ places. places.items ≡ chain) = search rules in
    IfOk-weaker c.without_doubles.result (λ places. places.items ≡ chain) (λ places. All (λ place. place < length c.args.descriptor.now.filters) places.items) (λ places same. rw same (chain_in c.args.descriptor.now c.args.path.now c.args.servlet.now c.args.kind)) exact
