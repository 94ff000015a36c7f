-- The law of recorded events.
use Rattle.sv_run.specs.Contexts.{Theory}
use Rattle.sv_run.specs.Reacting.{Reacting, StepsLike}
use Rattle.sv_run.specs.State.{State}

-- If a handler takes events as the run of a container does, so does another that holds it.
abbrev pub IsTakenWithin : {R Q Context Words : Type 0} → Reacting R → Reacting Q → (Q → R) → Theory Context Words → Type 0
IsTakenWithin {R} {Q} {Context} {Words} steps outer within theory =
    (state_of : R → State Context Words) → StepsLike steps theory state_of → StepsLike outer theory (λ recorder. state_of (within recorder))
