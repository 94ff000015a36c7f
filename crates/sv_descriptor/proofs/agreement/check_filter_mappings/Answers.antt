use Rattle.std.proofs.Common.{◌||◌, ℕ, List, Bool, true, false, codes, ◌∙◌, ap, subst, sym}
use Rattle.sv_text.specs.Gives.{Gives}
use Rattle.sv_descriptor.specs.Agreement.{unknown_servlet_steps}
use Rattle.sv_descriptor.specs.Fault.{located_fault, refuse_at}
use Rattle.sv_descriptor.specs.Servlet.{is_reserved_servlet}
use Rattle.sv_descriptor.specs.declared.fault.FaultCode.TheVariants.{UnknownServlet}
use Rattle.sv_descriptor.proofs.Places.{all-filters, all-servlets, known-fits, unknown-fits}
use Rattle.sv_descriptor.proofs.agreement.check_filter_mappings.Goals as goal

pub returns : goal.returns
returns c =
    let mappings = c.as_slice-mappings.ensures in
    known-fits c.args.web_app.now
    (all-filters c.args.web_app.now c.args.filters.now c.requires.filters (rw mappings at c.in_default.ensures))
    (all-servlets c.args.web_app.now c.args.servlets.now true c.requires.servlets (rw mappings at c.if-not-have_servlets.ensures))

pub returns-then-not-have_servlets : goal.returns-then-not-have_servlets
returns-then-not-have_servlets c =
    let app = c.args.web_app.now in
    let mappings = c.as_slice-mappings.ensures in
    let steps = ap (λ (known : List ℕ → Bool). unknown_servlet_steps known 0 app.filter_mappings) (λ i name. ap (λ b. is_reserved_servlet name || b) (c.requires.servlets name) i) in
    let fits = unknown-fits app (all-filters app c.args.filters.now c.requires.filters (rw mappings at c.in_default.ensures))
    (all-servlets app c.args.servlets.now false c.requires.servlets (rw mappings at c.if-not-have_servlets.ensures)) in
    subst (λ answer. Gives located_fault c.refuse_servlet.result answer)
    (ap (refuse_at UnknownServlet (codes "servlet-name")) steps ∙ sym fits)
    (rw mappings at c.refuse_servlet.ensures)
