use Rattle.std.proofs.Common.{ap, ◌∙◌}
use Rattle.sv_mapping.specs.Split.{form_servlet_path}
use Rattle.sv_mapping.proofs.Texts.{within_boundary, within_front, within_from_matches}
use Rattle.sv_mapping.proofs.path_split.split.Goals as goal

pub split_at-requires-in-Prefix : goal.split_at-requires-in-Prefix
split_at-requires-in-Prefix c =
    within_boundary c.in-Prefix.prefix.now c.args.path.now (within_from_matches c.args.pattern.now c.in-Prefix.prefix.now c.args.path.now c.in-Prefix.ensures.form c.requires)

pub returns-in-Prefix-clause-servlet_path : goal.returns-in-Prefix-clause-servlet_path
returns-in-Prefix-clause-servlet_path c =
    c.split_at-in-Prefix.ensures.servlet_path
    ∙ (within_front c.in-Prefix.prefix.now c.args.path.now (within_from_matches c.args.pattern.now c.in-Prefix.prefix.now c.args.path.now c.in-Prefix.ensures.form c.requires)
    ∙ ap (λ f. form_servlet_path f c.args.path.now) c.in-Prefix.ensures.form)
