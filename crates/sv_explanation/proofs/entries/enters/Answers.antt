use Rattle.std.proofs.Common.{◌≡◌, List, ap, subst, ◌∙◌}
use Rattle.sv_descriptor.specs.declared.servlet.ServletMapping.{ServletMapping}
use Rattle.sv_descriptor.specs.declared.web_app.WebApp.{WebApp}
use Rattle.sv_text.specs.Gives.{GivesAnswer}
use Rattle.sv_explanation.specs.Entries.{enters_with}
use Rattle.sv_explanation.specs.Servlets.{servlet_at}
use Rattle.sv_explanation.proofs.entries.enters.Goals as goal

pub returns : goal.returns
returns c =
    let context = c.args.context.now in
    let canon = c.args.canon.now in
    let mappings : c.as_slice-mappings.result.now ≡ context.descriptor.servlet_mappings =
    c.as_slice-mappings.ensures ∙ ap (λ (its : WebApp). its.servlet_mappings) c.web_app.ensures.value in
    subst (λ servlet. GivesAnswer c.enters_with.result (enters_with context c.args.files.now c.args.method.now canon servlet))
    (c.in_ok-servlet.ensures
    ∙ ap (λ (its : List ServletMapping). servlet_at its c.as_str.result.now) mappings
    ∙ ap (servlet_at context.descriptor.servlet_mappings) c.as_str.ensures)
    c.enters_with.ensures
