use Rattle.std.proofs.Common.{◌≡◌, sym, ap, ◌∙◌}
use Rattle.std.proofs.lemmas.Result.{IfOk-weaker}
use Rattle.sv_chain.specs.FilterChain.{filter_chain}
use Rattle.sv_tree.specs.SiteOfDescriptor.{site_of}
use Rattle.sv_tree.specs.Site.{name_of}
use Rattle.sv_tree.proofs.site.Site.chain.Goals as goal

pub returns-clause-chain : goal.returns-clause-chain
returns-clause-chain c =
    let path = c.args.path.now in
    let name = c.name_in-name.result.now in
    let known = name_of (site_of c.args.self.now) c.args.resource in
    let app : c.self.inside.descriptor ≡ c.args.self.now.app = ap (λ content. content.app) c.self.view_is in
    let named : name ≡ known = c.name_in-name.ensures c.args.self.now (sym app) in
    let same : filter_chain c.self.inside.descriptor path name c.args.kind ≡ filter_chain c.args.self.now.app path known c.args.kind =
    ap (λ a. filter_chain a path name c.args.kind) app ∙ ap (λ n. filter_chain c.args.self.now.app path n c.args.kind) named in
    IfOk-weaker c.of.result (λ chain. chain ≡ filter_chain c.self.inside.descriptor path name c.args.kind)
    (λ chain. chain ≡ filter_chain c.args.self.now.app path known c.args.kind) (λ chain exact. exact ∙ same) c.of.ensures.chain
