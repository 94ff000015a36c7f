use Rattle.std.proofs.Common.{◌≡◌, ◌||◌, drop}
use Rattle.sv_descriptor.specs.Agreement.{unknown_servlet_steps}
use Rattle.sv_descriptor.specs.Servlet.{is_reserved_servlet}
use Rattle.sv_descriptor.specs.Table.{is_among}
use Rattle.sv_descriptor.proofs.agreement.refuse_servlet.Given as goal

abbrev pub invariant-loop-place : goal.invariant-loop-place
invariant-loop-place l =
    unknown_servlet_steps (λ name. is_reserved_servlet name || is_among l.fn.servlets name) l.place (drop l.place l.mappings)
    ≡ unknown_servlet_steps (λ name. is_reserved_servlet name || is_among l.fn.servlets name) 0 l.mappings
