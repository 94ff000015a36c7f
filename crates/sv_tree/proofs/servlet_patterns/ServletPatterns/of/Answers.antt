use Rattle.std.proofs.Common.{ap, ◌∙◌}
use Rattle.sv_tree.proofs.Beside.{compiled-is, compiled-long}
use Rattle.sv_tree.proofs.servlet_patterns.ServletPatterns.of.Goals as goal

pub invariant_of-result : goal.invariant_of-result
invariant_of-result c =
    (c.in_ok-table.ensures ∙ c.as_slice-2.ensures.value, compiled-long c.as_slice.result.now c.as_slice-mappings.result.now c.in_ok-patterns.patterns.items c.in_ok-servlets.servlets.items c.in_ok-patterns.ensures c.in_ok-servlets.ensures)

pub returns-clause-gives : goal.returns-clause-gives
returns-clause-gives c =
    compiled-is c.args.descriptor.now c.as_slice.result.now c.as_slice-mappings.result.now c.in_ok-patterns.patterns.items c.in_ok-servlets.servlets.items
    (c.as_slice.ensures ∙ ap (λ app. app.servlets) c.web_app-app.ensures.value) (c.as_slice-mappings.ensures ∙ ap (λ app. app.servlet_mappings) c.web_app-app.ensures.value)
    c.in_ok-patterns.ensures c.in_ok-servlets.ensures
