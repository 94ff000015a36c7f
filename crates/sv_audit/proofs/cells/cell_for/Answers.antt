use Rattle.std.proofs.Common.{map}
use Rattle.std.specs.Borrow.{Bor}
use Rattle.sv_constraints.specs.declared.constraint.Constraint.{Constraint}
use Rattle.sv_audit.proofs.CellLemmas.{decided_cell, login_cell}
use Rattle.sv_audit.proofs.cells.cell_for.Goals as goal

pub returns-in-Some : goal.returns-in-Some
returns-in-Some c = λ pattern. decided_cell c.args.whose c.args.rules.now pattern (map (λ (member : Bor Constraint). member.now) c.args.members.now) c.covering_findings-found.result c.found_cell.result c.in-Some.cell c.covering_findings-found.ensures c.found_cell.ensures c.in-Some.is

pub returns-in_ok-login_access-in-None : goal.returns-in_ok-login_access-in-None
returns-in_ok-login_access-in-None c = λ pattern. login_cell c.args.whose c.args.rules.now pattern (map (λ (member : Bor Constraint). member.now) c.args.members.now) c.covering_findings-found.result c.found_cell.result c.in_ok-login_access-in-None.field-0 c.login_number.result
    c.covering_findings-found.ensures c.found_cell.ensures c.in-None.is c.in_ok-login_access-in-None.ensures c.login_number.ensures
