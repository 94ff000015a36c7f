use Rattle.std.proofs.Common.{◌≡◌, ◌∙◌, rules}
use Rattle.std.specs.HashMap.{get_by_text}
use Rattle.sv_files.proofs.index.Index.place_of.Goals as goal

pub returns : goal.returns
returns c =
    let found : c.copied.result ≡ get_by_text c.args.self.now.places c.args.path.now = search rules in
    λ files is. found ∙ is.places c.args.path.now
