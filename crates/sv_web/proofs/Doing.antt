-- The state after a call that was not refused.
use Rattle.std.specs.Prelude.{Bool, Ok}
use Rattle.std.proofs.Common.{◌≡◌, sym, ◌∙◌, ap}
use Rattle.sv_exchange.specs.Changing.{Change, Does, answer, left_by}
use Rattle.sv_exchange.specs.State.{State}

pub does_left : (change : Change) (done : Bool) (before after : State)
    → Does change (Ok done) before after → after ≡ left_by (answer change before) change before
does_left change done before after does = does.1 ∙ ap (λ said. left_by said change before) (sym does.0)
