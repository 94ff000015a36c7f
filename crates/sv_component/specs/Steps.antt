-- The steps of the components of a context, as their authors specify them.
use Rattle.sv_component.specs.Call.{Call}

-- The effect of a call on a servlet, on a filter and on a listener.
pub record ComponentSteps (S F L : Type 0) : Type 1 where
  pub servlet : S → Call → S → Type 0
  pub filter : F → Call → F → Type 0
  pub listener : L → Call → L → Type 0

abbrev pub steps_of : {S F L : Type 0} → (S → Call → S → Type 0) → (F → Call → F → Type 0) → (L → Call → L → Type 0) → ComponentSteps S F L
steps_of servlet_step filter_step listener_step = record { servlet = servlet_step; filter = filter_step; listener = listener_step }

-- The steps of listeners, with no constraint on other components.
abbrev pub listening : {L : Type 0} → (L → Call → L → Type 0) → ComponentSteps (Unit {0}) (Unit {0}) L
listening listener_step = record { servlet = λ _ _ _. Unit {0}; filter = λ _ _ _. Unit {0}; listener = listener_step }
