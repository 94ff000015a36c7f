-- The availability of a servlet (Jakarta Servlet 6.0, section 2.3.3.2).
use Rattle.std.specs.Prelude.{ℕ, Bool, true, false, nat_lt, if◌then◌else◌}
use Rattle.sv_component.specs.declared.standing.Standing.{Standing}
use Rattle.sv_component.specs.declared.standing.Standing.TheVariants.{Serving, Gone, Away}

abbrev pub is_gone : Standing → Bool
is_gone Serving = false
is_gone Gone = true
is_gone (Away until) = false

-- A servlet that was away is back in service once its time has passed.
abbrev pub standing_now : ℕ → Standing → Standing
standing_now moment Serving = Serving
standing_now moment Gone = Gone
standing_now moment (Away until) = if nat_lt moment until then Away until else Serving
