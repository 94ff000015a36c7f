use Rattle.std.proofs.Common.{None, Some, ap, sym, ◌∙◌}
use Rattle.sv_mapping.specs.BestMatch.{best}
use Rattle.sv_tree.specs.Site.{chosen_by}
use Rattle.sv_tree.proofs.Beside.{best-found, texts-beside, texts_of}
use Rattle.sv_tree.proofs.servlet_patterns.ServletPatterns.chosen.Goals as goal

pub chosen_at-requires : goal.chosen_at-requires
chosen_at-requires c =
    let texts = c.self.invariant.0 ∙ (sym (texts-beside c.self.inside.patterns.items c.self.inside.servlets.items c.self.invariant.1) ∙ ap texts_of c.self.view_is) in
    sym c.in-Some.is ∙ (c.lookup.ensures.best ∙ ap (λ known. best known c.args.path.now) texts)

pub returns-in-Some : goal.returns-in-Some
returns-in-Some c =
    let texts = c.self.invariant.0 ∙ (sym (texts-beside c.self.inside.patterns.items c.self.inside.servlets.items c.self.invariant.1) ∙ ap texts_of c.self.view_is) in
    let found = sym c.in-Some.is ∙ (c.lookup.ensures.best ∙ ap (λ known. best known c.args.path.now) texts) in
    c.chosen_at.ensures ∙ ap (chosen_by c.args.path.now) (best-found c.args.self.now c.args.path.now (Some c.in-Some.place) found)

pub returns-in-None : goal.returns-in-None
returns-in-None c =
    let texts = c.self.invariant.0 ∙ (sym (texts-beside c.self.inside.patterns.items c.self.inside.servlets.items c.self.invariant.1) ∙ ap texts_of c.self.view_is) in
    let found = sym c.in-None.is ∙ (c.lookup.ensures.best ∙ ap (λ known. best known c.args.path.now) texts) in
    ap (chosen_by c.args.path.now) (best-found c.args.self.now c.args.path.now None found)
