use Rattle.std.proofs.Common.{◌||◌, ◌++◌, ◌∷◌, [], not, codes, ◌∙◌, ap, subst, ℕ, List, Bool}
use Rattle.std.specs.List.{position}
use Rattle.std.specs.Option.{unwrap_or}
use Rattle.sv_text.specs.Gives.{Gives}
use Rattle.sv_descriptor.specs.Fault.{located_fault, refuse_at, item_key}
use Rattle.sv_descriptor.specs.Servlet.{is_reserved_servlet}
use Rattle.sv_descriptor.specs.Table.{is_among}
use Rattle.sv_descriptor.specs.declared.fault.FaultCode.TheVariants.{UnknownServlet}
use Rattle.sv_descriptor.specs.declared.fault.ValueStep.TheVariants.{Item}
use Rattle.sv_descriptor.proofs.Places.{unknown-here, unknown-later}
use Rattle.sv_descriptor.proofs.agreement.refuse_servlet.Goals as goal

pub returns-then-not-are_known : goal.returns-then-not-are_known
returns-then-not-are_known c =
    let is_known : List ℕ → Bool = λ name. is_reserved_servlet name || is_among c.args.servlets.now name in
    let here = unknown-here is_known c.args.mappings.now c.loop-place.place c.index-mappings-place.result c.loop-place-test.true c.index-mappings-place.is (rw c.as_slice-names.ensures at c.if-not-are_known.ensures) in
    let item = c.unwrap_or-name.ensures ∙ ap (λ r. unwrap_or r 0) c.first_unknown.ensures ∙ ap (λ names. unwrap_or (position (λ name. not (is_known name)) names) 0) c.as_slice-names.ensures in
    subst (λ steps. Gives located_fault c.refuse_nested.result (refuse_at UnknownServlet (codes "servlet-name") steps))
    (ap (λ n. item_key (codes "filter-mapping") c.loop-place.place (codes "servlet-name") ++ Item n ∷ []) item ∙ here ∙ c.loop-place.invariant)
    c.refuse_nested.ensures

pub loop-place-preserved : goal.loop-place-preserved
loop-place-preserved c =
    unknown-later (λ name. is_reserved_servlet name || is_among c.args.servlets.now name) c.args.mappings.now c.loop-place.place c.index-mappings-place.result
    c.loop-place-test.true c.index-mappings-place.is (rw c.as_slice-names.ensures at c.if-not-are_known.ensures) ∙ c.loop-place.invariant
