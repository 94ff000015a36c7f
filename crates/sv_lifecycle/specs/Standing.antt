-- The availability of the servlets of a context after the `init` calls of its start (Jakarta Servlet 6.0, section
-- 2.3.3.2).
use Rattle.std.specs.Prelude.{ℕ, ◌==◌, Bool, false, List, if◌then◌else◌}
use Rattle.std.specs.List.{list_any}
use Rattle.sv_component.specs.declared.answers.Init.{Init}
use Rattle.sv_component.specs.declared.answers.Init.TheVariants.{Ready, Unavailable, Failed, NoMemory}
use Rattle.sv_component.specs.declared.standing.Standing.{Standing}
use Rattle.sv_component.specs.declared.standing.Standing.TheVariants.{Serving, Gone}
use Rattle.sv_lifecycle.specs.declared.begin.Answered.{Answered}
use Rattle.sv_journal.specs.declared.calls.Place.{Place}
use Rattle.sv_journal.specs.declared.calls.Place.TheVariants.{Filter, Servlet}

-- Whether a result takes the servlet at an index out of service.
abbrev pub is_out : ℕ → Place → Init → Bool
is_out place (Servlet other) Unavailable = other == place
is_out place (Servlet other) Ready = false
is_out place (Servlet other) Failed = false
is_out place (Servlet other) NoMemory = false
is_out place (Filter other) answer = false

-- The availability of the servlet at an index after the `init` calls. A servlet whose `init` returned that it is
-- unavailable is gone.
abbrev pub standing_after : List Answered → ℕ → Standing
standing_after begun place = if list_any (λ answered. is_out place answered.place answered.answer) begun then Gone else Serving
