use Rattle.std.proofs.Common.{◌≡◌, ap, subst, sym, ◌∙◌}
use Rattle.sv_descriptor.specs.WellFormed.{IsWellFormed}
use Rattle.sv_tree.specs.Seen.{IsThere, chosen_seen}
use Rattle.sv_tree.specs.ServletMappings.{mappings_of}
use Rattle.sv_tree.specs.SiteOfDescriptor.{site_of}
use Rattle.sv_tree.specs.Site.{chosen}
use Rattle.sv_tree.proofs.Declared.{chosen-is, chosen-there}
use Rattle.sv_tree.proofs.site.Site.chosen.Goals as goal

pub returns-clause-chosen : goal.returns-clause-chosen
returns-clause-chosen c =
    c.chosen.ensures ∙ chosen-is (site_of c.args.self.now) c.args.path.now c.self.inside.patterns (c.self.invariant.0 ∙ ap (λ content. mappings_of content.app) c.self.view_is)

pub returns-clause-declared : goal.returns-clause-declared
returns-clause-declared c =
    let site = site_of c.args.self.now in
    let formed = subst (λ content. IsWellFormed content.app) c.self.view_is c.self.invariant.2 in
    let same : chosen_seen c.chosen.result ≡ chosen site c.args.path.now = c.chosen.ensures ∙ chosen-is site c.args.path.now c.self.inside.patterns (c.self.invariant.0 ∙ ap (λ content. mappings_of content.app) c.self.view_is) in
    subst (IsThere site) (sym (ap (λ its. its.resource) same)) (chosen-there c.args.self.now c.args.path.now formed)
