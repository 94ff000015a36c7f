use Rattle.std.proofs.Common.{subst, ◌∙◌}
use Rattle.sv_wire.specs.ResponseText.{IsDateAt}
use Rattle.sv_wire.proofs.date_text.DateText.as_bytes.Goals as goal

pub returns : goal.returns
returns c =
    let shown = c.self.invariant in
    (shown.0, subst (λ moment. IsDateAt moment shown.0) c.self.view_is shown.1, c.as_slice.ensures ∙ shown.2)
