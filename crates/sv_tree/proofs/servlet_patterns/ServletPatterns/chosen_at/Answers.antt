use Rattle.std.proofs.Common.{[], ap, sym, ◌∙◌, arith}
use Rattle.sv_mapping.specs.BestMatch.{best}
use Rattle.sv_mapping.specs.Pattern.{matches}
use Rattle.std.specs.Option.{option_copied}
use Rattle.sv_tree.proofs.Beside.{best-matches, chosen-at, texts-beside, texts_of}
use Rattle.sv_tree.proofs.servlet_patterns.ServletPatterns.chosen_at.Goals as goal

pub index-requires : goal.index-requires
index-requires c =
    let texts = sym (ap texts_of c.self.view_is) ∙ texts-beside c.self.inside.patterns.items c.self.inside.servlets.items c.self.invariant.1 in
    let found = best-matches c.self.inside.patterns.items c.args.path.now c.args.place [] (c.requires ∙ ap (λ known. best known c.args.path.now) texts) in
    omega (arith, found.0, c.self.inside.patterns.ok.0)

pub index-requires-2 : goal.index-requires-2
index-requires-2 c =
    let texts = sym (ap texts_of c.self.view_is) ∙ texts-beside c.self.inside.patterns.items c.self.inside.servlets.items c.self.invariant.1 in
    let found = best-matches c.self.inside.patterns.items c.args.path.now c.args.place [] (c.requires ∙ ap (λ known. best known c.args.path.now) texts) in
    omega (arith, found.0, c.self.invariant.1, c.self.inside.servlets.ok.0)

pub split-split-requires : goal.split-split-requires
split-split-requires c =
    let texts = sym (ap texts_of c.self.view_is) ∙ texts-beside c.self.inside.patterns.items c.self.inside.servlets.items c.self.invariant.1 in
    let found = best-matches c.self.inside.patterns.items c.args.path.now c.args.place c.index.result.now (c.requires ∙ ap (λ known. best known c.args.path.now) texts) in
    ap (λ text. matches text c.args.path.now) c.index.ensures ∙ found.1

pub returns : goal.returns
returns c =
    let texts = sym (ap texts_of c.self.view_is) ∙ texts-beside c.self.inside.patterns.items c.self.inside.servlets.items c.self.invariant.1 in
    let found = best-matches c.self.inside.patterns.items c.args.path.now c.args.place [] (c.requires ∙ ap (λ known. best known c.args.path.now) texts) in
    chosen-at c.args.self.now c.self.inside.patterns.items c.self.inside.servlets.items c.args.place c.args.path.now c.index.result.now c.split-split.result.servlet_path.now c.index-2.result.now (option_copied c.split-split.result.path_info)
    c.self.view_is c.self.invariant.1 found.0 c.index.ensures c.index-2.ensures c.split-split.ensures.servlet_path c.split-split.ensures.path_info
